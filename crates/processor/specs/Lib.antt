pub mod Rules
pub mod Formulas
pub mod Meanings
pub mod Held
pub mod Tried
pub mod Figures
