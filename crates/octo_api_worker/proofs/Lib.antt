pub mod Asked
pub mod Calls
pub mod Walking
pub mod Writing
