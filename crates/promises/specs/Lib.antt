pub mod Small
pub mod Valid
pub mod Sits
pub mod Kept
pub mod Seated
pub mod Step
pub mod Run
pub mod GoesOn
