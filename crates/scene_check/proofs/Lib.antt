pub mod NumberLaws
pub mod Ended
