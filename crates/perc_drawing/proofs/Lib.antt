pub mod Appended
pub mod Drawn
pub mod Ends
pub mod Reading
