pub mod Retold
pub mod OnlyLater
pub mod Asked
pub mod Stays
