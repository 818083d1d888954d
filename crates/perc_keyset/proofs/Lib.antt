pub mod GivenLaws
pub mod HistoryLaws
pub mod KeptLaws
pub mod Lists
pub mod AcceptingLaws
pub mod SetLaws
