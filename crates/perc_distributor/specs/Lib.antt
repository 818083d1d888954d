pub mod Inbound
pub mod Forwarding
pub mod Kept
pub mod Parts
pub mod Rooms
pub mod Tables
pub mod Hearing
pub mod Laws
