pub mod Schedule
pub mod History
pub mod Kept
