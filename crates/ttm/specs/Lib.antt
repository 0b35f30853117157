pub mod Kept
pub mod Answers
pub mod Making
pub mod Entering
pub mod Promises
