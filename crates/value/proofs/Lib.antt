pub mod Caps
mod Pieces
mod Joined
