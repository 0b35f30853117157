pub mod Exact
pub mod Law
pub mod Pairs
pub mod Runs
