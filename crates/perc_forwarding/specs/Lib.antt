pub mod Shares
pub mod Runs
