pub mod Computes
pub mod Counts
pub mod Corners
pub mod Written
pub mod Good
pub mod Draws
pub mod Canvases
