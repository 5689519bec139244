pub mod Calls
pub mod Grown
pub mod Links
pub mod Stories
