-- The places of the sections at a sweep's ends, n sections of 48 bytes from place `at` on. Definitions only.
use Rattle.std.specs.Prelude.{◌≡◌, ℕ, ◌+◌, ◌-◌, ◌*◌, ◌≤◌}

-- the section beside the first, the last one and the one beside it; of one section alone all are that section
pub record EndPlaces (at n second last previous : ℕ) : Type 0 where
  pub alone : n ≡ 1 → second ≡ at
  pub others : 2 ≤ n → second ≡ at + 48
  pub end : last ≡ at + 48 * (n - 1)
  pub beside_end : previous ≡ at + 48 * (n - 2)
