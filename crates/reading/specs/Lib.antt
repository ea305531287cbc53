pub mod Given
pub mod Position
