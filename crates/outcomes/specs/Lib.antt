pub mod Combine
pub mod Outcome
