pub mod WalkLaws
pub mod Plainly
pub mod RowsPlain
pub mod Renumbers
