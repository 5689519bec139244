pub mod Address
pub mod Heard
pub mod Lines
pub mod Sent
pub mod Stuck
pub mod Waiting
