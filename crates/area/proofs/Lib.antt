pub mod Copied
pub mod Found
pub mod Marks
