pub mod Numbers
pub mod Message
pub mod Stream
pub mod Decoding
pub mod Told
pub mod Forms
pub mod Room
