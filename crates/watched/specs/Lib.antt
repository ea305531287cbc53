pub mod Gave
pub mod Note
pub mod Watch
pub mod WatchRows
