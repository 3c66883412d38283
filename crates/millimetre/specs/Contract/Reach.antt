-- The numbers for which the rule is shown. Definitions only.
use Rattle.std.specs.Prelude.{T, Float}
use Rattle.std.specs.Float.{binary32}
use Rattle.std.specs.Float.Ieee.{le, of_bits}
use Rattle.float.specs.Signs.{magnitude}

-- of magnitude at most 2 ^ 40
abbrev pub InReach : Float → Type 0
InReach x = T (le (magnitude x) (of_bits binary32 0x5380_0000))
