pub mod Each
pub mod Taken
pub mod Making
