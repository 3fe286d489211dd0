pub mod Worthy
pub mod Worked
