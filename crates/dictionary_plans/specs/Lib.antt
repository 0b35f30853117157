pub mod Substrings
