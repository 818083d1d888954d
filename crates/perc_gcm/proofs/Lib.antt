mod Blocks
mod FieldBody
pub mod FieldLaws
pub mod GcmLaws
mod KeyStream
mod Multiples
pub mod Numbers
mod Tags
