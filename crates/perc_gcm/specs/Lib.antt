pub mod Field
pub mod Gcm
pub mod Running
pub mod Table
