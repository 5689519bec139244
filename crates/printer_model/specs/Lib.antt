pub mod Corrupt
pub mod Exchanged
pub mod Executed
pub mod Printer
pub mod Replies
pub mod World
