pub mod NextWord
