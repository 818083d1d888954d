pub mod Growth
pub mod Reasons
pub mod Report
pub mod View
