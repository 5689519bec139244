pub mod Asked
pub mod Hot
pub mod Most
