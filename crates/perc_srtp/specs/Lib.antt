pub mod Sealed
pub mod Ends
pub mod Streams
pub mod Rtcp
