pub mod RemoveLaws
