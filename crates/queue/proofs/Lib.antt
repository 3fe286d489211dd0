pub mod Order
pub mod Admitted
pub mod Bounds
