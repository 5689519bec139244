pub mod Judging
pub mod Laws
mod Rows
pub mod Sessions
pub mod Starts
pub mod Wires
