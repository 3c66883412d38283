pub mod SweepPrices
