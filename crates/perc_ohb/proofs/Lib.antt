pub mod BlockLaws
pub mod ReadingLaws
pub mod RewritingLaws
mod Writing
