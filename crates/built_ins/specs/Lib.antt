pub mod Entries
pub mod Places
pub mod Rows
pub mod Spelling
