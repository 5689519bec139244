pub mod Asked
pub mod Cleaned
pub mod Others
