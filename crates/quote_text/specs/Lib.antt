pub mod Quote
pub mod Contract
