pub mod Totals
pub mod Packed
pub mod Laws
pub mod Meant
pub mod Gained
pub mod Lost
