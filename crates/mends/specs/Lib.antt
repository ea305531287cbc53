pub mod Mend
pub mod Changes
pub mod Parts
pub mod MendCall
pub mod Mends
pub mod Rows
