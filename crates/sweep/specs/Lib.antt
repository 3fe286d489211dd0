pub mod Views
pub mod Swept
pub mod Ready
pub mod Leaves
