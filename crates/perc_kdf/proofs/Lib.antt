pub mod OrderLaws
pub mod SessionLaws
