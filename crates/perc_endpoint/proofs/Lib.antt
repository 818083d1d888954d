pub mod Running
pub mod Sealing
mod Standing
