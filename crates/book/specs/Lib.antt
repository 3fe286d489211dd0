pub mod Calls
pub mod Sound
pub mod Waits
pub mod Books
pub mod Spending
