pub mod Unwrap
pub mod Wrap
