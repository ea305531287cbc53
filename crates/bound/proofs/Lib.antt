pub mod Parts
pub mod ExprBounds
pub mod SignalBounds
pub mod RootBounds
