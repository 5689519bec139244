pub mod Held
pub mod Recorded
