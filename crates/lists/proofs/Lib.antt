pub mod Computes
pub mod Loops
pub mod Lists
pub mod Places
pub mod Buffers
pub mod Tests
pub mod Stores
