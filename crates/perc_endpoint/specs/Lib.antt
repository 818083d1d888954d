pub mod Endpoint
pub mod Kept
pub mod Calls
