pub mod Receiving
pub mod Rows
pub mod Held
pub mod Turning
pub mod Parts
