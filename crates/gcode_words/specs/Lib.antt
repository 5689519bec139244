pub mod Left
pub mod Value
pub mod Words
