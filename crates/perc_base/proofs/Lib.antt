pub mod Steps
mod Lists
mod Taken
mod Decisions
