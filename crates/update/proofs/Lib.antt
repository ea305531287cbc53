pub mod Evaluable
pub mod CatchLaws
pub mod PassLaws
pub mod QuietLaws
