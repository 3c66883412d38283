-- Millimetres that antt computes. Assumes nothing.
use mathlib.Core.Path.{◌≡◌, refl}
use mathlib.Core.List.{[], ◌∷◌, map}
use lib.IntN.{pos, negsuc}
use lib.Ieee.{binary32, of_bits}
use Rattle.millimetre.specs.Millimetres.{millimetres}

-- 1/16, 3/16 and -1/16 of a metre, each half a millimetre past a whole number
halves : map (λ b. millimetres (of_bits binary32 b)) (0x3d80_0000 ∷ 0x3e40_0000 ∷ 0xbd80_0000 ∷ []) ≡ pos 63 ∷ pos 188 ∷ negsuc 62 ∷ []
unfolding millimetres of_bits
halves = refl

-- the f32 beside 1/16, below and above
beside : map (λ b. millimetres (of_bits binary32 b)) (0x3d7f_ffff ∷ 0x3d80_0001 ∷ []) ≡ pos 62 ∷ pos 63 ∷ []
unfolding millimetres of_bits
beside = refl

-- the f32 next to 0.0005, above and below; -0.0 and the smallest f32; 2 ^ 40; the largest coordinate, 6 * 2 ^ 24; and a NaN and an infinity, which no mesh holds
others : map (λ b. millimetres (of_bits binary32 b)) (0x3a03_126f ∷ 0x3a03_126e ∷ 0x8000_0000 ∷ 1 ∷ 0x5380_0000 ∷ 0xccc0_0000 ∷ 0x7fc0_0000 ∷ 0xff80_0000 ∷ [])
    ≡ pos 1 ∷ pos 0 ∷ pos 0 ∷ pos 0 ∷ pos 1_099_511_627_776_000 ∷ negsuc 100_663_295_999 ∷ pos 0 ∷ pos 0 ∷ []
unfolding millimetres of_bits
others = refl
