pub mod Named
pub mod Whole
pub mod Renumbered
pub mod StillSound
pub mod AsTidied
pub mod TidyAgain
pub mod AsAsked
pub mod RowsHold
