pub mod Counts
pub mod Data
pub mod Done
pub mod Faults
pub mod Kept
pub mod Lines
pub mod Reading
pub mod Users
