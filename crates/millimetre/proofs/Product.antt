-- 1,000 times an f32 is exact in an f64. The product is a whole number v of at most 31 digits times 2 ^ j of the smallest f64, 2 ^ -1074. Assumes nothing.
use mathlib.Core.Path.{◌≡◌, refl, sym, ap, ◌∙◌, subst}
use mathlib.Core.Bool.{Bool, true, false, not}
use Prim.Native.Nat.{ℕ, ◌+◌, ◌*◌, ◌%◌, ◌^◌, ◌≤◌, ◌<◌}
use native.Mathlib.Nat.{le_trans, le_of_eq, mul-pos, le_of_mul-le-mul_right, lt_of_le_of_lt, lt_of_lt_of_le, mul-le-mul_right}
use native.Mathlib.Omega.{arith}
use lib.IntN.{pos}
use lib.Dec.{T, leb, lit<, lit≤}
use borrow.Author.Tests.{leb-true}
use lib.Pow.{pow_pos, pow-add, pow_mono, shl_lt}
use lib.Ieee.{Float, nan, inf, fin, binary32, binary64, top, unlike, up, down, round, mul, le, of_bits, to_bits, is_nan, fits}
use lib.Ieee.Fits.{down_pos}
use lib.Ieee.Bits.{is_true, of_bits-to_bits}
use lib.Ieee.Exact.{HasValue, round_exact}
use lib.Ieee.Scale.{round_same, finite}
use lib.Ieee.Positive.{num, den, den_pos}
use Rattle.float.specs.Contract.Rounding.{field, significand, exponent}
use Rattle.float.specs.Signs.{negative, magnitude}
use Rattle.float.proofs.Rounding.{read, significand_lt, field_lt}
use Rattle.float.proofs.Patterns.{limited}
use Rattle.float.proofs.Within.{Within, within_of_le}
use Rattle.millimetre.specs.Contract.Reach.{InReach}

abbrev pub thousand : Float
thousand = of_bits binary64 0x408f_4000_0000_0000

thousand_is : thousand ≡ fin false 125 (pos 3)
unfolding of_bits
thousand_is = refl

like : (s : Bool) → unlike s false ≡ s
like true = refl
like false = refl

-- x is finite, and 1,000 times it is v * 2 ^ j of the smallest f64
pub record Thousandfold (x : Float) (s : Bool) (v j : ℕ) : Type 0 where
  pub known : T (finite x)
  pub sign : negative x ≡ s
  pub few : v < 2 ^ 31
  pub up : 0 < j
  pub same : 1000 * num x * 2 ^ 1074 ≡ v * 2 ^ j * den x
  pub exact : HasValue (mul binary64 x thousand) s (v * 2 ^ j) (2 ^ 1074)

-- u / d, which is g * 2 ^ i of the smallest f32, by 1,000
scaled : (u d g i : ℕ) → u * 2 ^ 149 ≡ g * 2 ^ i * d → 1000 * u * 2 ^ 1074 ≡ 125 * g * 2 ^ (i + 928) * d
scaled u d g i e =
    ap (λ (z : ℕ). 1000 * u * z) (pow-add 2 149 925)
    ∙ plain (2 ^ 149) (2 ^ 925) (2 ^ i) e
    ∙ ap (λ (z : ℕ). 125 * g * (2 ^ i * z) * d) (sym (pow-add 2 3 925))
    ∙ ap (λ (z : ℕ). 125 * g * z * d) (sym (pow-add 2 i 928))
  where
    plain : (a b p : ℕ) → u * a ≡ g * p * d → 1000 * u * (a * b) ≡ 125 * g * (p * (8 * b)) * d
    plain a b p e = omega (arith, ap (λ (z : ℕ). z * b) e)

pub product_exact : (x : Float) (s : Bool) (g i : ℕ) → HasValue x s (g * 2 ^ i) (2 ^ 149) → g < 2 ^ 24 → i < 254 → Thousandfold x s (125 * g) (i + 928)
unfolding mul
product_exact nan s g i h G I = absurd h
product_exact (inf t) s g i h G I = absurd h
product_exact (fin t m e) s g i h G I =
    let a = 125 * g * 2 ^ (i + 928) in
    let few : 125 * g < 2 ^ 31 = omega arith in
    let room : 31 + (i + 928) ≤ 2098 = omega arith in
    let same = scaled (m * up e) (down e) g i h.1 in
    let is : mul binary64 (fin t m e) thousand ≡ round binary64 s a (2 ^ 1074) =
    ap (mul binary64 (fin t m e)) thousand_is
    ∙ ap (λ (u : Bool). round binary64 u (m * up e * 1000) (down e * 1)) (like t ∙ h.0)
    ∙ round_same binary64 s (m * up e * 1000) (down e * 1) a (2 ^ 1074) (mul-pos (down_pos e) (lit< tt)) (pow_pos 1074) (turned (m * up e) (down e) (2 ^ 1074) a same) in
    record {
      known = tt;
      sign = h.0;
      few = few;
      up = omega arith;
      same = same;
      exact = subst (λ (y : Float). HasValue y s a (2 ^ 1074)) (sym is) (round_exact binary64 s a (2 ^ 1074) (125 * g) (i + 928) (pow_pos 1074) (lt_of_lt_of_le few (lit≤ tt)) (lt_of_lt_of_le (shl_lt 31 (i + 928) few) (pow_mono room)) refl);
    }
  where
    turned : (u d l a : ℕ) → 1000 * u * l ≡ a * d → u * 1000 * l ≡ a * (d * 1)
    turned u d l a e = omega arith

-- ---- of a number in reach

pub reach_is : of_bits binary32 0x5380_0000 ≡ fin false 1 (pos 40)
unfolding of_bits
reach_is = refl

pub reach_within : (x : Float) → InReach x → Within 1 40 x
unfolding magnitude le
reach_within nan h = absurd h
reach_within (inf s) h = absurd (subst (λ (y : Float). T (le (inf false) y)) reach_is h)
reach_within (fin s m e) h = within_of_le s m e 1 40 (subst (λ (y : Float). T (le (fin false m e) y)) reach_is h)

pub reach_no_nan : (x : Float) → InReach x → T (not (is_nan x))
unfolding magnitude le is_nan
reach_no_nan nan h = h
reach_no_nan (inf s) h = tt
reach_no_nan (fin s m e) h = tt

reach_bits : (x : Float) → T (fits binary32 x) → InReach x → to_bits binary32 x % top binary32 ≤ 0x5380_0000
reach_bits x f h =
    let b = to_bits binary32 x in
    leb-true (b % top binary32) 0x5380_0000
    (limited binary32 b 0x5380_0000 (lit< tt) (lit< tt)
    ∙ ap (λ (y : Float). le (magnitude y) (of_bits binary32 0x5380_0000)) (of_bits-to_bits binary32 x f)
    ∙ is_true (le (magnitude x) (of_bits binary32 0x5380_0000)) h)

pub thousandfold : (x : Float) → T (fits binary32 x) → InReach x → (s : Bool) × (v : ℕ) × (j : ℕ) × Thousandfold x s v j
thousandfold x f h =
    let b = to_bits binary32 x in
    let low : b % top binary32 < 255 * 2 ^ 23 = omega (arith, reach_bits x f h) in
    let y : field binary32 b < 255 = field_lt binary32 b low in (
      leb (top binary32) b,
      125 * significand binary32 b,
      exponent binary32 b + 928,
      product_exact x (leb (top binary32) b) (significand binary32 b) (exponent binary32 b)
          (subst (λ (z : Float). HasValue z (leb (top binary32) b) (significand binary32 b * 2 ^ exponent binary32 b) (2 ^ 149)) (of_bits-to_bits binary32 x f) (read binary32 b y))
          (significand_lt binary32 b) (omega arith),
    )

-- in reach the product is below 2 ^ 50
pub product_small : (x : Float) (s : Bool) (v j : ℕ) → InReach x → Thousandfold x s v j → v * 2 ^ j < 2 ^ 50 * 2 ^ 1074
product_small x s v j h t =
    lt_of_le_of_lt
    (le_of_mul-le-mul_right (le_trans (le_of_eq (sym t.same)) (most (num x) (den x) (2 ^ 1074) (reach_within x h).small)) (den_pos x))
    (lit< tt)
  where
    most : (u d l : ℕ) → u ≤ 1 * 2 ^ 40 * d → 1000 * u * l ≤ 1000 * 2 ^ 40 * l * d
    most u d l h = omega (arith, mul-le-mul_right l h)
