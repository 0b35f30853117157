pub mod Bytes
pub mod Copied
pub mod Highest
pub mod Leveled
pub mod Lower
pub mod Passed
pub mod Places
