pub mod Texts
pub mod Writing
pub mod Standing
pub mod Meeting
pub mod Fronts
pub mod Running
pub mod Making
pub mod Openings
