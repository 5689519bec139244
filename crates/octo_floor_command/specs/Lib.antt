pub mod Beginning
pub mod Lines
pub mod Links
pub mod Reports
pub mod RunReports
pub mod Running
pub mod Settings
