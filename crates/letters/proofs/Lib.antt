pub mod WroteLaws
pub mod PutsLaws
pub mod WordLaws
pub mod DigitLaws
pub mod ValueLaws
