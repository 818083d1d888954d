pub mod Cipher
pub mod Field
pub mod Inverse
pub mod KeySchedule
pub mod Words
