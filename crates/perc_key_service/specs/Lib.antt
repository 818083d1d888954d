pub mod Hearing
pub mod Keeper
pub mod Replies
pub mod Service
pub mod Serving
