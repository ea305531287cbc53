pub mod Restored
pub mod Twins
