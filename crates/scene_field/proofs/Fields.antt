-- Numbers past the scene's end, where every byte counts as 0. Assumes nothing.
use mathlib.Core.Path.{◌≡◌}
use mathlib.Core.List.{List}
use Prim.Native.Nat.{ℕ, ◌+◌, ◌*◌, ◌≤◌}
use native.Mathlib.Omega.{arith}
use lib.ListN.{length, get_or, get_or-eq_default}
use Rattle.scene_field.specs.Fields.{u16_at, u32_at}

pub further : (n i k : ℕ) → n ≤ i → n ≤ i + k
further n i k h = omega arith

pub byte_past : (s : List ℕ) (i : ℕ) → length s ≤ i → get_or s i 0 ≡ 0
byte_past s i h = get_or-eq_default s 0 h

-- a number by its four bytes
pub u32_bytes : (s : List ℕ) (i : ℕ) → u32_at s i ≡ get_or s i 0 + 256 * get_or s (i + 1) 0 + 65536 * get_or s (i + 2) 0 + 16777216 * get_or s (i + 3) 0
unfolding u32_at u16_at
u32_bytes s i = let z : i + 2 + 1 ≡ i + 3 = omega arith in rw z (omega arith)

pub u16_past : (s : List ℕ) (i : ℕ) → length s ≤ i → u16_at s i ≡ 0
unfolding u16_at
u16_past s i h = omega (arith, byte_past s i h, byte_past s (i + 1) (further (length s) i 1 h))

pub u32_past : (s : List ℕ) (i : ℕ) → length s ≤ i → u32_at s i ≡ 0
unfolding u32_at
u32_past s i h = omega (arith, u16_past s i h, u16_past s (i + 2) (further (length s) i 2 h))
