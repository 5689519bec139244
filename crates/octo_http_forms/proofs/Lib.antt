pub mod Cuts
pub mod Forms
pub mod Scans
pub mod Unique
