pub mod Numbered
pub mod Outcomes
pub mod Substrings
