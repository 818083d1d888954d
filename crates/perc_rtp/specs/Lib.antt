pub mod Header
pub mod Fields
pub mod Media
pub mod Padding
pub mod Carried
pub mod Reading
