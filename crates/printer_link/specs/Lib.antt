pub mod Calls
pub mod Link
pub mod Memory
pub mod Suits
