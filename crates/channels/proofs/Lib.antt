pub mod NamedLaws
pub mod Joined
