pub mod OutcomeLaws
pub mod NumberLaws
pub mod ReadyLaws
pub mod BranchLaws
pub mod RecallBounds
pub mod KindLaws
pub mod WalkLaws
pub mod SmallLaws
