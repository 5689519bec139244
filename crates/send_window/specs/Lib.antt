pub mod Counting
pub mod Data
pub mod Fields
pub mod Hearing
pub mod Laws
pub mod Patience
pub mod Sending
pub mod Session
