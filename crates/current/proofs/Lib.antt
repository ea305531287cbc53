pub mod Bounds
pub mod Resting
pub mod Leaving
pub mod Targets
pub mod SameUpdate
