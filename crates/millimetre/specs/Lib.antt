pub mod Millimetres
pub mod Contract
