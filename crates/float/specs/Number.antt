-- Document 01, section 3: the numbers. An f32 and an f64 are a `Float` of lib.Ieee, whose `round` says what rounding is.
use Rattle.std.specs.Prelude.{Bool, true, false, Float}
use Rattle.std.specs.Float.{nan, inf, fin, binary32, binary64}
use Rattle.std.specs.Float.Ieee.{add, sub, mul, div, le, of_bits}
use Rattle.float.specs.Rounding.{square_root, convert}
use Rattle.float.specs.Signs.{magnitude}

infixl 60 ◌+f◌ ◌-f◌ ◌+d◌ ◌-d◌
infixl 62 ◌*f◌ ◌/f◌ ◌*d◌
-- ---- the operators of f32, and those of f64 that `orient` uses
abbrev pub ◌+f◌ : Float → Float → Float
x +f y = add binary32 x y

abbrev pub ◌-f◌ : Float → Float → Float
x -f y = sub binary32 x y

abbrev pub ◌*f◌ : Float → Float → Float
x *f y = mul binary32 x y

abbrev pub ◌/f◌ : Float → Float → Float
x /f y = div binary32 x y

abbrev pub ◌+d◌ : Float → Float → Float
x +d y = add binary64 x y

abbrev pub ◌-d◌ : Float → Float → Float
x -d y = sub binary64 x y

abbrev pub ◌*d◌ : Float → Float → Float
x *d y = mul binary64 x y

-- ---- numbers by name, by their bits, as a constant of the program is read
abbrev pub zerof : Float
zerof = of_bits binary32 0

abbrev pub onef : Float
onef = of_bits binary32 0x3f800000

abbrev pub twof : Float
twof = of_bits binary32 0x40000000

abbrev pub halff : Float
halff = of_bits binary32 0x3f000000

abbrev pub sixteenf : Float
sixteenf = of_bits binary32 0x41800000

-- MIN_AREA, 1e-6
abbrev pub min_area : Float
min_area = of_bits binary32 0x358637bd

-- f32::MIN, -(2 ^ 128 - 2 ^ 104)
abbrev pub minf : Float
minf = of_bits binary32 0xff7fffff

-- f32::MIN_POSITIVE, 2 ^ -126
abbrev pub min_positive : Float
min_positive = of_bits binary32 0x00800000

-- TAU
abbrev pub tau : Float
tau = of_bits binary32 0x40c90fdb

-- the largest magnitude of an f32 of a scene, 16,777,216, and of an f64, 1
abbrev pub largest : Float
largest = of_bits binary32 0x4b800000

abbrev pub largest64 : Float
largest64 = of_bits binary64 0x3ff0000000000000

-- ---- what Rust's methods give; `abs`, `signum`, `max` and `total_cmp` stand in specs/Signs.antt
unfoldable pub is_finite : Float → Bool
is_finite nan = false
is_finite (inf s) = false
is_finite (fin s m e) = true

-- IEEE 754's square root of an f32, and an f64 narrowed to an f32: to nearest, ties to even (specs/Rounding.antt)
abbrev pub sqrt : Float → Float
sqrt x = square_root binary32 x

abbrev pub narrow : Float → Float
narrow x = convert binary32 x

-- ---- numbers that a scene may hold
unfoldable pub allowed32 : Float → Bool
allowed32 x = le (magnitude x) largest

unfoldable pub allowed64 : Float → Bool
allowed64 x = le (magnitude x) largest64
