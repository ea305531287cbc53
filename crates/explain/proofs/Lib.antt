pub mod TraceLaws
pub mod FillLaws
