pub mod Written
pub mod Numbered
pub mod Listed
pub mod Passed
pub mod Rows
