pub mod Rounding
pub mod Signs
pub mod Number
pub mod Contract
