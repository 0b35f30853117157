pub mod EachShown
pub mod Lines
pub mod Marks
