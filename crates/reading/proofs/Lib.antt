pub mod RowsLaws
pub mod ReadLaws
pub mod CallLaws
pub mod Here
