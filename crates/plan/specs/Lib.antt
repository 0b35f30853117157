pub mod Effects
pub mod Plans
