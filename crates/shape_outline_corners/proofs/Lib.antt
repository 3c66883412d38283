pub mod CornerLaws
pub mod Searches
pub mod AreaLaws
