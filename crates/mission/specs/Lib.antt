pub mod Lent
pub mod Through
pub mod Faults
pub mod Refused
pub mod Mission
pub mod Keeps
