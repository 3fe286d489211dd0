pub mod Planning
pub mod Drafts
