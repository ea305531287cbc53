pub mod AskedLaws
pub mod EntryLaws
