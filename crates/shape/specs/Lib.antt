pub mod Shapes
pub mod Price
pub mod Contract
