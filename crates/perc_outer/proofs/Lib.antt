pub mod Finding
pub mod Standing
pub mod Searching
mod Opening
mod Datagrams
mod Octets
pub mod Outer
mod Telling
