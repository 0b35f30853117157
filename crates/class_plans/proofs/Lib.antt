pub mod Defined
pub mod Passed
pub mod Read
pub mod Runs
