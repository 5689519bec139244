pub mod Changes
pub mod FileNames
pub mod Groups
pub mod Names
pub mod Permissions
pub mod Rights
pub mod Rows
