pub mod Objects
pub mod Reasons
pub mod Refused
