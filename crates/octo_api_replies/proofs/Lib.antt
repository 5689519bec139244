pub mod Heaters
pub mod Whole
pub mod Tokens
