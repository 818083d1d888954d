mod Octets
mod Prepared
mod Steps
pub mod UnwrapLaws
pub mod WrapLaws
