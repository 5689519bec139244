pub mod Commands
pub mod Enough
pub mod Floors
