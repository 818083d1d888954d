pub mod Sharing
mod Sealing
mod Running
pub mod Owning
pub mod Matching
