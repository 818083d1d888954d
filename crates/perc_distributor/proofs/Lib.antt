mod SealingLaws
mod StreamsLaws
pub mod Sending
mod Entries
pub mod PlaceLaws
mod HearingLaws
mod Copies
mod TableLaws
pub mod SendingOn
mod UnderWay
pub mod OnTheWay
pub mod Arriving
mod Relaying
