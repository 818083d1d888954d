pub mod Issuing
pub mod Messages
pub mod Offering
pub mod Reading
pub mod Services
pub mod Serving
pub mod Turns
