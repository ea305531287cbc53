pub mod Twig
pub mod Sweep
pub mod Settle
pub mod Record
pub mod Numbering
