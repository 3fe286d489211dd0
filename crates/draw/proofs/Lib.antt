pub mod Adding
pub mod Climbing
pub mod Bounds
pub mod Stretched
pub mod Along
pub mod Pairs
pub mod Riding
pub mod Going
