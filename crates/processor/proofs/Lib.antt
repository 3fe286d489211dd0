pub mod Paired
pub mod Exact
pub mod Found
pub mod Tables
pub mod Front
