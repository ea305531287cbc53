pub mod Rewritten
pub mod TidyCall
pub mod Tidies
