pub mod Derivation
pub mod Order
pub mod Stored
