pub mod Delimiters
pub mod Parts
pub mod Texts
pub mod Values
