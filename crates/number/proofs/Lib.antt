pub mod Digits
pub mod Sizes
pub mod Attempts
pub mod Asked
pub mod Written
