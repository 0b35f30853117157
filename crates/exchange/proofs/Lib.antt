pub mod Stopping
pub mod InTurn
