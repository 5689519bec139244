pub mod Commands
pub mod Ends
pub mod Lines
pub mod Prints
