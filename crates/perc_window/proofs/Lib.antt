pub mod IndexLaws
mod MarkLaws
