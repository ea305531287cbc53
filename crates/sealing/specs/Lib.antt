pub mod Scratch
pub mod Found
