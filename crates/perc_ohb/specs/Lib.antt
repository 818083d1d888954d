pub mod Block
pub mod Reading
pub mod Rewriting
