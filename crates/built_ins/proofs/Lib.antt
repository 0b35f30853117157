pub mod Listed
pub mod Spelled
