mod Worlds
mod Needs
mod Fronts
pub mod Delivering
