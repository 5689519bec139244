pub mod Commands
pub mod Greatest
pub mod Values
