pub mod Failing
pub mod FailureText
