pub mod SmallTree
