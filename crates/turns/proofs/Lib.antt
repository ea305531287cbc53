pub mod BlockLaws
