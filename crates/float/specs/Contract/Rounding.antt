-- A finite number's bit pattern, taken apart.
use Rattle.std.specs.Prelude.{ℕ, ◌+◌, ◌-◌, ◌/◌, ◌%◌, cond, eqb}
use Rattle.std.specs.Float.{Format}
use Rattle.std.specs.Float.Ieee.{hid, top}

-- ---- a finite number's bit pattern b, taken apart: b's value is significand * 2 ^ exponent of the format's smallest values

abbrev pub field : Format → ℕ → ℕ
field f b = b % top f / hid f

abbrev pub significand : Format → ℕ → ℕ
significand f b = cond (eqb (field f b) 0) (b % hid f) (hid f + b % hid f)

abbrev pub exponent : Format → ℕ → ℕ
exponent f b = field f b - 1
