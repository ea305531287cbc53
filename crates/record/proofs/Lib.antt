pub mod TimeLaws
pub mod EventLaws
pub mod WrapLaws
