pub mod Outcomes
pub mod Planned
pub mod Meeting
pub mod ReadyCalls
pub mod Retrieving
pub mod Ends
