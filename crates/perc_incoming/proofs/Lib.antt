mod Standing
mod Unwrapping
mod Deciding
mod Taking
pub mod Parts
pub mod Hearing
pub mod Inquiring
