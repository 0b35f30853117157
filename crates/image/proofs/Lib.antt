pub mod Rows
pub mod Programs
pub mod Gather
pub mod Entries
pub mod Granting
