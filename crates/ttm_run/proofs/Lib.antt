pub mod Drafts
pub mod Steps
pub mod Shelving
