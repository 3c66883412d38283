pub mod Rings
pub mod EndLaws
