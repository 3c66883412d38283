pub mod Most
pub mod Contract
