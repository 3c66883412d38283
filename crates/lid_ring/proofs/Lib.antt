pub mod RingLaws
pub mod FoldLaws
