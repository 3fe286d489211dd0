pub mod Got
pub mod Numbers
pub mod Writing
pub mod Reading
pub mod Checks
pub mod Example
