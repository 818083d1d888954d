pub mod Outside
pub mod Lines
pub mod Room
pub mod Memory
pub mod Profile
pub mod Standard
pub mod Written
