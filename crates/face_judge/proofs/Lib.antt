pub mod OneOffered
pub mod ThinCounts
