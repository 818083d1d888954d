pub mod Appended
mod Causes
mod Lines
mod Sorts
mod Uuids
