pub mod Scene
pub mod Contract
