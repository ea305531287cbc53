pub mod EntryLaws
pub mod CallLaws
