pub mod Texts
pub mod Taking
