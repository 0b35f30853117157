pub mod Places
pub mod Names
pub mod Spaces
pub mod Storing
pub mod Deleting
pub mod Running
pub mod Stepping
