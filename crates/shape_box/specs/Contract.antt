-- What only serves contracts: no exported contract rests on it.
pub mod Axes
