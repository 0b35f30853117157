pub mod Chains
pub mod Calling
pub mod Names
pub mod Endings
pub mod Made
