pub mod Matching
pub mod Keeping
pub mod Publishing
