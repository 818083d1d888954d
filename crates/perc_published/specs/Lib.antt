pub mod Calls
pub mod Kept
pub mod Views
pub mod Words
