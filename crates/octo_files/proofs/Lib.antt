pub mod Cool
pub mod Gives
pub mod TooLarge
