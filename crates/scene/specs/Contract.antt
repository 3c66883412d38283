-- What only serves contracts: no exported contract rests on it.
pub mod Answers
pub mod Headers
pub mod Kinds
