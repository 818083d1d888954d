pub mod Streams
pub mod Datagram
pub mod Kept
pub mod Places
pub mod Parts
pub mod Reaching
