pub mod Conns
pub mod Lists
pub mod Memory
pub mod Recorded
pub mod Traits
