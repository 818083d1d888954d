pub mod Index
pub mod Replay
pub mod Words
