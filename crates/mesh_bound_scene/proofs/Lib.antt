pub mod Headers
pub mod Sums
pub mod DrawnExact
pub mod Counts
