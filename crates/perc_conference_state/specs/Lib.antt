pub mod Keys
pub mod Mirror
pub mod Lookups
pub mod Steps
