pub mod Computes
pub mod Accepted
pub mod Parts
pub mod RecordLaws
pub mod SceneLaws
pub mod HeaderLaws
pub mod Described
pub mod Walk
