pub mod Raised
pub mod Moves
pub mod Ends
