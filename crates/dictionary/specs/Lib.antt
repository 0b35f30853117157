pub mod Decoding
pub mod Meant
pub mod Finding
pub mod Editing
pub mod Strings
pub mod Needing
pub mod LookingUp
