pub mod Computes
pub mod Units
pub mod Table
