pub mod Parts
pub mod Table
pub mod Order
pub mod Written
pub mod Right
