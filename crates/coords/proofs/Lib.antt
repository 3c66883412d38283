pub mod Computes
pub mod Near
pub mod Turned
pub mod Lengths
pub mod Triangles
pub mod Equal
pub mod Buffers
pub mod Squares
