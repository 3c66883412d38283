pub mod Fields
pub mod Layout
