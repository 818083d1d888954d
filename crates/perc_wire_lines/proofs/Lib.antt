pub mod Controls
pub mod Made
pub mod Pushing
