pub mod SameTree
pub mod SameRules
pub mod Wider
pub mod Everywhere
pub mod Editions
