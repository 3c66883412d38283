pub mod Cleared
pub mod OutlineLaws
