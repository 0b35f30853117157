pub mod OfString
