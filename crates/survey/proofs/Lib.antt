pub mod Rising
pub mod Counted
pub mod Merged
