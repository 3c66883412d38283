pub mod Known
pub mod Lengths
pub mod Exact
