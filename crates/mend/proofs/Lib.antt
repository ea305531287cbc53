pub mod ListLaws
pub mod KeepLaws
pub mod CallLaws
