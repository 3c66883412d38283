pub mod Computes
pub mod Flats
pub mod Units
pub mod AboutLaws
pub mod PlaneLaws
