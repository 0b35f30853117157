pub mod Foreign
pub mod Promised
pub mod Entries
pub mod Late
pub mod Replies
