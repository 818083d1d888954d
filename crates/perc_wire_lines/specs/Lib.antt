pub mod Made
pub mod Wires
