pub mod ExprLaws
pub mod SignalLaws
