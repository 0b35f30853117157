pub mod Sufficing
