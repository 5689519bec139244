pub mod InStep
pub mod Laws
pub mod Prints
pub mod Rounds
pub mod Tied
