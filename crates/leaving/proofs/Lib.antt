pub mod LeaveLaws
