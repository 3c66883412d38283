-- Document 02, request 1: a coordinate in whole millimetres. Definitions only.
use Rattle.std.specs.Prelude.{ℕ, ◌+◌, ◌*◌, ◌/◌, Bool, cond, ℤ, pos, neg_ℤ, Float}
use Rattle.std.specs.Float.{nan, inf, fin}
use Rattle.std.specs.Float.Ieee.{up, down}

-- the whole number nearest to a / b: of two that are as near, the larger
abbrev pub nearest_whole : ℕ → ℕ → ℕ
nearest_whole a b = (2 * a + b) / (2 * b)

abbrev pub signed : Bool → ℕ → ℤ
signed negative n = cond negative (neg_ℤ (pos n)) (pos n)

-- 1,000 times the number, exactly, and of that the nearest whole number, a half away from zero; `up e / down e` is 2 ^ e. No mesh holds a NaN or an infinity.
unfoldable pub millimetres : Float → ℤ
millimetres nan = pos 0
millimetres (inf s) = pos 0
millimetres (fin s m e) = signed s (nearest_whole (1000 * (m * up e)) (down e))
