pub mod Octets
pub mod Keeping
pub mod Turning
