pub mod Keys
mod Packets
mod Opened
mod Sent
mod Started
