pub mod Chain
pub mod Leads
pub mod Explain
pub mod Explains
pub mod Rows
