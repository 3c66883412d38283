pub mod Verdict
pub mod Numbers
pub mod Faults
pub mod Validate
pub mod Contract
