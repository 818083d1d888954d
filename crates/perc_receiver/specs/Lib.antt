pub mod Table
pub mod Opener
pub mod Receiver
pub mod Foreign
pub mod Calls
