pub mod Faces
pub mod Contract
