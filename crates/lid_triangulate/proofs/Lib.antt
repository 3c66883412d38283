pub mod LidLaws
pub mod Limits
pub mod OrderLaws
