pub mod Parting
pub mod Numbering
pub mod Saying
pub mod Fielded
