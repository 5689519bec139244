pub mod Commands
pub mod Decimals
pub mod Filled
pub mod Lists
pub mod Members
pub mod Moves
