pub mod Meaning
pub mod Laws
pub mod Order
pub mod Ascii
pub mod Ebcdic
