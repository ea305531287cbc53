pub mod AsPlain
pub mod SameShown
pub mod RowLaws
pub mod Loose
pub mod OneWatch
