pub mod Copying
pub mod Takings
