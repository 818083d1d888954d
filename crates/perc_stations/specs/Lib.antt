pub mod Rounds
pub mod Stations
