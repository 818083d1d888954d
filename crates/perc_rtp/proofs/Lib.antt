mod Writing
pub mod Octets
mod Reading
mod Changing
pub mod HeaderLaws
pub mod PacketLaws
