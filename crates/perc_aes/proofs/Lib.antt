pub mod CipherLaws
mod Blocks
pub mod Linear
mod Mixing
pub mod Octets
mod Rounds
mod SBox
mod StateLaws
mod TableLaws
mod Words
