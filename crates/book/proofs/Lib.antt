pub mod Steps
pub mod Keeping
pub mod Totals
pub mod Soundness
pub mod Promises
pub mod Entering
pub mod Pricing
pub mod Charging
