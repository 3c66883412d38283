pub mod FillLaws
pub mod FlatLaws
pub mod LidLaws
