pub mod Reason
pub mod Script
pub mod View
