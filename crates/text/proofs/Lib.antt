pub mod Reading
pub mod Spelled
pub mod Written
