pub mod ByTable
