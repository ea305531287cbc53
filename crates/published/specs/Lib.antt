pub mod Expressions
pub mod Signals
pub mod Updates
pub mod Steps
pub mod Marks
