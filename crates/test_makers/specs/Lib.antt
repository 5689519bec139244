pub mod Links
pub mod Objects
