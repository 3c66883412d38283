-- What only serves contracts: no exported contract rests on it.
pub mod Ears
pub mod Laid
pub mod Notes
