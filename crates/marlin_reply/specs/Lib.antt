pub mod Kind
pub mod Pieces
pub mod Temperatures
