pub mod Origins
pub mod Pages
pub mod Served
pub mod Worked
