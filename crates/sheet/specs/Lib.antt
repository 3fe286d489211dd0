pub mod Sheets
pub mod Answers
pub mod Pages
pub mod Laws
