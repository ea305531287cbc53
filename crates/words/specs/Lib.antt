pub mod Division
pub mod Leaving
