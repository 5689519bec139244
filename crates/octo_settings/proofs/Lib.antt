pub mod Each
pub mod Items
pub mod Lines
pub mod NameBytes
pub mod PrintersSound
pub mod ScriptsSound
pub mod Sound
