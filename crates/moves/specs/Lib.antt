pub mod Outcomes
pub mod Parts
pub mod Lent
