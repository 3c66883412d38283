-- Document 01, section 4: a rounded root compared with a limit, by the radicand, so that no root is taken.
use Rattle.std.specs.Prelude.{ℕ, ◌+◌, ◌-◌, ◌*◌, cond, Float}
use Rattle.std.specs.Float.{binary32, binary64}
use Rattle.std.specs.Float.Ieee.{mul, lt, of_bits, to_bits}

-- The middle between the f32 above zero that has the bit pattern b and the f32 before it. It has one digit more than an f32, so it is an f64: an f64's pattern
-- has 29 digits more than an f32's, and the exponent's field is larger by 896. Where b is at most 2 ^ 23 this lies higher than the middle, and below every root all the same.
unfoldable pub middle : ℕ → Float
unfolding of_bits
middle b = of_bits binary64 (0x3800_0000_0000_0000 + (2 * b - 1) * 0x1000_0000)

-- the square of that middle, which is exact in an f64; and 0 for a limit that no root is below
unfoldable pub thin_bound : Float → Float
unfolding middle mul lt to_bits of_bits
thin_bound limit = cond (lt (of_bits binary32 0) limit) (mul binary64 (middle (to_bits binary32 limit)) (middle (to_bits binary32 limit))) (of_bits binary64 0)
