pub mod Beginning
pub mod Hosting
pub mod Opened
pub mod Reports
