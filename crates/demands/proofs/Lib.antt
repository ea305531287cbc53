pub mod Called
pub mod OwnWork
