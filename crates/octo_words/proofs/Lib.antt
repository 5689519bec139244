pub mod Listed
pub mod Parsed
pub mod Remarked
