mod Building
mod Answering
pub mod RelayLaws
pub mod CallerLaws
mod CutHeaders
