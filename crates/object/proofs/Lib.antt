pub mod Computes
pub mod Equal
pub mod Near
pub mod Known
