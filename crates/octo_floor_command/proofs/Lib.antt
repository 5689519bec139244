mod Begun
mod Configs
mod Runs
pub mod Saying
