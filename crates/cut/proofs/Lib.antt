pub mod Records
pub mod Halves
pub mod Cut
