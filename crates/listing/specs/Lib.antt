pub mod Glyphs
pub mod Ascii
pub mod Ebcdic
pub mod Listing
pub mod Adds
pub mod Runs
