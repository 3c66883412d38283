pub mod Whole
pub mod TextMost
