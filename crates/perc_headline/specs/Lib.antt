pub mod Headline
pub mod Nonces
