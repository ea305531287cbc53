pub mod Rules
pub mod NumberLaws
pub mod ExprLaws
pub mod SignalLaws
pub mod RuleLaws
