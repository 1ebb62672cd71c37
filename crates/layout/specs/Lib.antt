pub mod Entries
pub mod EntryLaws
pub mod Layout
pub mod TimerLaws
pub mod Valid
