pub mod FirstLaws
pub mod TestLaws
pub mod EarLaws
pub mod NoteLaws
