pub mod Ascii
pub mod Members
pub mod Places
pub mod Shown
pub mod Wants
