pub mod Combining
pub mod Counted
pub mod Numbers
pub mod Tallies
pub mod Outcomes
pub mod Slots
