pub mod Handed
pub mod Words
pub mod Reading
pub mod Commands
pub mod Showing
pub mod Answers
pub mod Scripts
