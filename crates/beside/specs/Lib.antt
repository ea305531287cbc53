pub mod Seen
pub mod Rows
pub mod Numbers
pub mod Says
