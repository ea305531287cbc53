pub mod PeekLaws
