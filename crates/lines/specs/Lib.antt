pub mod Print
pub mod Channels
pub mod Shown
pub mod Pen
