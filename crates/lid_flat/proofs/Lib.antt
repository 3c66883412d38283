pub mod FlatLaws
