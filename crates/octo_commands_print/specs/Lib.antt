pub mod Draws
pub mod Fates
pub mod File
pub mod Printing
pub mod Run
pub mod Summary
