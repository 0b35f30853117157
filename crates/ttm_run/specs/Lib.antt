pub mod Showing
pub mod Filling
pub mod Demonstration
