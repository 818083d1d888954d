pub mod Fields
pub mod Keys
pub mod Octets
pub mod Records
pub mod Writing
