pub mod Prefixes
pub mod Spelling
pub mod Steps
