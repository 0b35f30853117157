pub mod Rooms
pub mod Again
pub mod Numbers
pub mod Segments
pub mod Marking
pub mod Named
