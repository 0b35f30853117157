pub mod Memory
mod Steps
mod FromScan
