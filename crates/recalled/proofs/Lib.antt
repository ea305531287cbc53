pub mod Keeps
pub mod More
pub mod Remember
pub mod SameRecall
pub mod BindersOnce
pub mod RootRecall
pub mod Linear
