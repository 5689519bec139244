pub mod Calls
pub mod Contents
pub mod Courses
pub mod Hosts
pub mod Limits
pub mod OverContents
pub mod Own
