pub mod Lanes
pub mod Gathered
