pub mod Third
pub mod Unplugged
pub mod Parts
