pub mod Carried
pub mod ResetLaws
pub mod StartLaws
