pub mod Standing
pub mod Datagrams
pub mod Reports
pub mod Rows
pub mod Nonces
