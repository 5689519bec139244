pub mod Columns
pub mod Failures
pub mod Groups
pub mod Kept
pub mod Pieces
pub mod Statements
