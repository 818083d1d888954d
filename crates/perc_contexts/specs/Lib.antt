pub mod Receiving
pub mod Kept
pub mod History
pub mod Places
