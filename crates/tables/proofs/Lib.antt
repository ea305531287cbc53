pub mod CellLaws
pub mod LetLaws
pub mod NamedLaws
pub mod TurnLaws
