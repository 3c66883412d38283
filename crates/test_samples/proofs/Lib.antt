pub mod Computes
pub mod Lending
pub mod Examples
