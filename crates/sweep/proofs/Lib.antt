pub mod Tightened
pub mod Parts
pub mod Passes
pub mod Taking
pub mod Crossing
pub mod Going
pub mod Surveyed
