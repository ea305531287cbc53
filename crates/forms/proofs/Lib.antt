pub mod KindLaws
pub mod PartLaws
pub mod FormLaws
