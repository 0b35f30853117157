pub mod Planning
