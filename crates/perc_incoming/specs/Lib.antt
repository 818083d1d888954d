pub mod Kept
pub mod Control
pub mod Granting
pub mod Asking
pub mod Outcome
pub mod Opening
