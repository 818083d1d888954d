pub mod Membership
pub mod Publishers
