pub mod Contract
