-- A triangle of a face. Definitions only.
use Rattle.std.specs.Prelude.{ℕ}

-- three corners, each the number of one of the face's points
pub record Triangle : Type 0 where
  pub a : ℕ
  pub b : ℕ
  pub c : ℕ

abbrev pub triangle : ℕ → ℕ → ℕ → Triangle
triangle i j k = record { a = i; b = j; c = k }
