pub mod SearchLaws
pub mod SumLaws
pub mod RecordLaws
pub mod RowLaws
