pub mod Joined
pub mod Judging
