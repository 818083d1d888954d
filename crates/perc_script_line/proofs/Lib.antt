mod Lines
mod Several
mod Sorts
mod Told
