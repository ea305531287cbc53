pub mod Fields
pub mod Lets
pub mod Owners
pub mod Named
