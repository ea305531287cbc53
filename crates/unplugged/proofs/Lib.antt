pub mod SameSteps
pub mod FromTable
pub mod Unplugged
