pub mod Triangles
pub mod Contract
