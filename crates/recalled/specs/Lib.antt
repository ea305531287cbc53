pub mod Recall
pub mod Spent
