pub mod Lowered
pub mod Numbered
pub mod Orders
pub mod Runs
pub mod SettledPrints
pub mod SoundTables
pub mod SortedQueue
