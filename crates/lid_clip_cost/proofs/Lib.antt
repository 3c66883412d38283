pub mod Cost
pub mod Computed
