-- The pass over the records of a scene. Assumes nothing.
pub mod Tails
pub mod Objects
pub mod Adding
pub mod Walks
