pub mod Numerals
pub mod Results
