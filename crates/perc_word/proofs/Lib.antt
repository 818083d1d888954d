mod Lengths
pub mod Items
pub mod Numerals
pub mod Spelled
pub mod Spelling
pub mod Split
pub mod Taking
