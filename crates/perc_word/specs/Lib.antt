pub mod Digits
pub mod Left
pub mod Padded
pub mod Shown
pub mod Word
