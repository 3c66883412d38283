pub mod Plane
pub mod Contract
