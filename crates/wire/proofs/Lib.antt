pub mod PutLaws
pub mod DecimalLaws
pub mod HexLaws
