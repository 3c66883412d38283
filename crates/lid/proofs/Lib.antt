pub mod Computes
pub mod Entries
pub mod Areas
pub mod Facts
pub mod Planes
pub mod KnownBridges
