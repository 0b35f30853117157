pub mod Decoding
pub mod Places
pub mod Adding
pub mod Shelved
