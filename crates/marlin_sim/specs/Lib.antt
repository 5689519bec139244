pub mod Lines
pub mod Plan
pub mod Run
pub mod Served
pub mod Signed
pub mod Sim
