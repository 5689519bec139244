pub mod Checks
pub mod Faults
pub mod Jobs
pub mod Measures
pub mod Reading
pub mod Settings
pub mod Status
pub mod Texts
