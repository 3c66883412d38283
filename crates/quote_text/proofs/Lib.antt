pub mod Verdicts
pub mod Examples
pub mod Enough
