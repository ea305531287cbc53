pub mod RoomNoted
pub mod RowsHold
