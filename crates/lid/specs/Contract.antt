-- What only serves contracts: no exported contract rests on it.
pub mod Rings
pub mod Written
pub mod Steps
