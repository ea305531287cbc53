pub mod Beheld
