pub mod Headers
pub mod Secrets
pub mod Tried
pub mod Agreeing
pub mod Taken
pub mod Calling
pub mod Once
pub mod Genuine
