pub mod Calls
pub mod Files
pub mod Memory
pub mod Order
pub mod Settled
pub mod Sound
pub mod Tables
