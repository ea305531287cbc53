pub mod RestLaws
pub mod WellLaws
pub mod Lengths
