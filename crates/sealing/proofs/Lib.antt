pub mod NameLaws
pub mod RecordLaws
