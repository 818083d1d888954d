pub mod Field
pub mod Key
pub mod Reading
pub mod Record
