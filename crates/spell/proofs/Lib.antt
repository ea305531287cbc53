pub mod PartLaws
pub mod WordLaws
pub mod NumberLaws
