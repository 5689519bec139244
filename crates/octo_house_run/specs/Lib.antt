-- The words of a host's run over a counter.
pub mod Asks
pub mod Laws
pub mod Own
pub mod Reconnecting
pub mod Runs
pub mod Tallies
pub mod Turns
