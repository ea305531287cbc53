pub mod Fits
pub mod Signs
pub mod Floor
pub mod Lowered
pub mod Wide
pub mod Leaving
pub mod Cases
