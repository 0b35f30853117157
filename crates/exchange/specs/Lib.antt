pub mod Agreement
pub mod Stopping
pub mod Copying
