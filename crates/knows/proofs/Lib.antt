pub mod Knows
pub mod Twins
