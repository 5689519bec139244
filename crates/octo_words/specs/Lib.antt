pub mod Apps
pub mod Remarks
pub mod Words
