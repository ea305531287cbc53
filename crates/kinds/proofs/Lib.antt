pub mod KindLaws
pub mod RowLaws
pub mod Digits
