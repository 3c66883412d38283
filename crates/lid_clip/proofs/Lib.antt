pub mod MarkLaws
pub mod ClipRun
pub mod HeldLaws
pub mod HeldRun
