pub mod Numerals
pub mod Writing
