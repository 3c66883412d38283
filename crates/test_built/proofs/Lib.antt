pub mod Outlines
pub mod Solids
