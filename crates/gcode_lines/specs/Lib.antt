pub mod Commands
pub mod Found
pub mod Held
pub mod Job
pub mod Packed
pub mod Single
pub mod Text
