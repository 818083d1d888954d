pub mod Markup
pub mod Element
pub mod Status
pub mod Reading
