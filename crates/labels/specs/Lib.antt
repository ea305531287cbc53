pub mod Noted
pub mod Awaited
