pub mod Rows
pub mod Owing
