mod Growth
mod Saying
mod Turning
mod LineFeeds
mod Stepping
mod Running
pub mod Beginnings
