pub mod Sending
pub mod Kept
pub mod History
