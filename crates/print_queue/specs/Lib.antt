pub mod Calls
pub mod Lawful
pub mod Rows
