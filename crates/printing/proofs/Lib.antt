pub mod TurnLaws
pub mod Parts
