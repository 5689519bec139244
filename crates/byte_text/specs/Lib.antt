pub mod Chars
pub mod Marks
pub mod Number
pub mod Sendable
pub mod Xor
