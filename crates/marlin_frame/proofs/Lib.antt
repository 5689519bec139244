pub mod FrameLaws
pub mod HelloLaws
pub mod PartLaws
