pub mod Holds
pub mod Kept
pub mod Loads
pub mod Rows
pub mod Settled
pub mod Statements
pub mod Upgrade
