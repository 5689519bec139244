pub mod Changed
pub mod Digests
pub mod Found
pub mod Inserted
pub mod Refused
pub mod Tables
pub mod Undone
