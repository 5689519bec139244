pub mod Coming
pub mod Lost
pub mod Pieces
pub mod Places
pub mod Serving
pub mod Steps
pub mod Unsigned
