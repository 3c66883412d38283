-- The f64 one place past a number of at most 2 ^ 50 in size, away from zero: its significand and exponent are read off the pattern, and the next pattern's
-- value is one unit of the last place more. Assumes nothing.
use mathlib.Core.Path.{◌≡◌, refl, sym, ap, ◌∙◌, subst}
use mathlib.Core.Logic.{◌⊎◌, inl, inr}
use mathlib.Core.Bool.{Bool, true, false, cond}
use Prim.Native.Nat.{ℕ, zero, suc, ◌+◌, ◌-◌, ◌*◌, ◌%◌, ◌^◌, ◌≤◌, ◌<◌}
use native.Mathlib.Nat.{le_trans, le_of_eq, lt_of_le_of_lt, mul-one, mul_comm, suc-mul, add_assoc, eq_of_mul-eq-mul_right, mul-le-mul_right, le-add_right, min-eq_left}
use native.Mathlib.Omega.{arith}
use lib.IntN.{pos}
use lib.Dec.{T, leb, eqb, eqb-suc-zero, lit<}
use borrow.Author.Tests.{leb-true, leb-false}
use lib.Pow.{pow_pos, pow-add, pow_mono}
use lib.Ieee.{Float, nan, inf, fin, Format, binary64, hid, top, down, units, le, of_bits, to_bits, fits}
use lib.Ieee.Fits.{down_pos}
use lib.Ieee.Bits.{is_true, of_bits-to_bits, to_bits-lt}
use lib.Ieee.Order.{le_of_values}
use lib.Ieee.Exact.{HasValue, units_val}
use Rattle.float.specs.Contract.Rounding.{field, significand, exponent}
use Rattle.float.specs.Signs.{magnitude}
use Rattle.float.proofs.Patterns.{limited}
use Rattle.float.proofs.Rounding.{units_bits, read, two_fields, significand_lt, field_lt}

-- ---- a pattern without its sign's bit is the exponent's place and the significand

pub pattern_parts : (f : Format) (b : ℕ) → b % top f ≡ exponent f b * hid f + significand f b
pattern_parts f b = go (field f b) (b % hid f) (hid f) (b % top f) (two_fields f b)
  where
    go : (x t h z : ℕ) → x * h + t ≡ z → z ≡ (x - 1) * h + cond (eqb x 0) t (h + t)
    go zero t h z e = sym e
    go (suc x) t h z e = subst (λ (c : Bool). z ≡ (suc x - 1) * h + cond c t (h + t)) (sym (eqb-suc-zero x)) (sym e ∙ next x t h)
      where
        less : (x : ℕ) → x ≡ suc x - 1
        less x = omega arith

        next : (x t h : ℕ) → suc x * h + t ≡ (suc x - 1) * h + (h + t)
        next x t h = ap (λ (w : ℕ). w + t) (suc-mul x h) ∙ add_assoc (x * h) h t ∙ ap (λ (w : ℕ). w * h + (h + t)) (less x)

pub leading : (f : Format) (b : ℕ) → (exponent f b ≡ 0) ⊎ (hid f ≤ significand f b)
leading f b = go (field f b) (b % hid f) (hid f)
  where
    go : (x t h : ℕ) → (x - 1 ≡ 0) ⊎ (h ≤ cond (eqb x 0) t (h + t))
    go zero t h = inl refl
    go (suc x) t h = subst (λ (c : Bool). (suc x - 1 ≡ 0) ⊎ (h ≤ cond c t (h + t))) (sym (eqb-suc-zero x)) (inr (le-add_right h t))

-- ---- a number of at most 2 ^ 50 in size, by its pattern

same_size : (y : Float) (s : Bool) (a c : ℕ) → HasValue y s a c → HasValue (magnitude y) false a c
unfolding magnitude
same_size nan s a c h = h
same_size (inf t) s a c h = h
same_size (fin t m e) s a c h = (refl, h.1)

bound_is : of_bits binary64 0x4310_0000_0000_0000 ≡ fin false 1 (pos 50)
unfolding of_bits
bound_is = refl

small_bits : (y : Float) (s : Bool) (a c : ℕ) → T (fits binary64 y) → 0 < c → HasValue y s a c → a ≤ 2 ^ 50 * c → to_bits binary64 y % 2 ^ 63 ≤ 0x4310_0000_0000_0000
small_bits y s a c f C v h =
    let b = to_bits binary64 y in
    leb-true (b % 2 ^ 63) 0x4310_0000_0000_0000
    (limited binary64 b 0x4310_0000_0000_0000 (lit< tt) (lit< tt)
    ∙ ap (λ (x : Float). le (magnitude x) (of_bits binary64 0x4310_0000_0000_0000)) (of_bits-to_bits binary64 y f)
    ∙ ap (λ (x : Float). le (magnitude y) x) bound_is
    ∙ is_true (le (magnitude y) (fin false 1 (pos 50))) (le_of_values (magnitude y) (fin false 1 (pos 50)) a c (2 ^ 50) 1 C (lit< tt) (same_size y s a c v) (refl, refl) (le_trans (le_of_eq (mul-one a)) h)))

one_value : (y : Float) (s t : Bool) (a b c : ℕ) → HasValue y s a c → HasValue y t b c → (t ≡ s) × (b ≡ a)
one_value nan s t a b c h k = absurd h
one_value (inf u) s t a b c h k = absurd h
one_value (fin u m e) s t a b c h k = (sym k.0 ∙ h.0, eq_of_mul-eq-mul_right (down e) (down_pos e) b a (sym k.1 ∙ h.1))

-- ---- the next pattern

-- y and one in its last place more: q * 2 ^ k and 2 ^ k more of the smallest f64
pub record Next (y : Float) (s : Bool) (q k : ℕ) : Type 0 where
  pub bits : to_bits binary64 y ≡ cond s (2 ^ 63) 0 + (k * 2 ^ 52 + q)
  pub low : k * 2 ^ 52 + q ≤ 0x4310_0000_0000_0000
  pub digits : q < 2 ^ 53
  pub lead : (k ≡ 0) ⊎ (2 ^ 52 ≤ q)
  pub place : k + 2 ≤ 1074

pub next_of : (y : Float) (s : Bool) (a : ℕ) → T (fits binary64 y) → HasValue y s a (2 ^ 1074) → a ≤ 2 ^ 50 * 2 ^ 1074
    → let b = to_bits binary64 y in Next y s (significand binary64 b) (exponent binary64 b) × (significand binary64 b * 2 ^ exponent binary64 b ≡ a)
next_of y s a f v h =
    let b = to_bits binary64 y in
    let q = significand binary64 b in
    let k = exponent binary64 b in
    let small : b % 2 ^ 63 ≤ 0x4310_0000_0000_0000 = small_bits y s a (2 ^ 1074) f (pow_pos 1074) v h in
    let low : b % 2 ^ 63 < 2047 * 2 ^ 52 = omega arith in
    let w = subst (λ (z : Float). HasValue z (leb (2 ^ 63) b) (q * 2 ^ k) (2 ^ 1074)) (of_bits-to_bits binary64 y f) (read binary64 b (field_lt binary64 b low)) in
    let u = one_value y s (leb (2 ^ 63) b) a (q * 2 ^ k) (2 ^ 1074) v w in
    let parts : b % 2 ^ 63 ≡ k * 2 ^ 52 + q = pattern_parts binary64 b in (
      record {
        bits = signed_pattern b (to_bits-lt binary64 y f) ∙ ap (λ (t : Bool). cond t (2 ^ 63) 0 + b % 2 ^ 63) u.0 ∙ ap (λ (z : ℕ). cond s (2 ^ 63) 0 + z) parts;
        low = subst (λ (z : ℕ). z ≤ 0x4310_0000_0000_0000) parts small;
        digits = significand_lt binary64 b;
        lead = leading binary64 b;
        place = omega arith;
      },
      u.1,
    )
  where
    signed_pattern : (b : ℕ) → b < 2 ^ 64 → b ≡ cond (leb (2 ^ 63) b) (2 ^ 63) 0 + b % 2 ^ 63
    signed_pattern b l = go (leb (2 ^ 63) b) refl
      where
        go : (t : Bool) → leb (2 ^ 63) b ≡ t → b ≡ cond t (2 ^ 63) 0 + b % 2 ^ 63
        go true e = let g = leb-true (2 ^ 63) b e in omega arith
        go false e = let g = leb-false (2 ^ 63) b e in omega arith

pub next_value : (y : Float) (s : Bool) (q k : ℕ) → Next y s q k → HasValue (of_bits binary64 (to_bits binary64 y + 1)) s ((q + 1) * 2 ^ k) (2 ^ 1074)
next_value y s q k n =
    let at : to_bits binary64 y + 1 ≡ cond s (2 ^ 63) 0 + (k * 2 ^ 52 + (q + 1)) = omega (arith, n.bits) in
    let few : q + 1 ≤ 2 ^ 53 = omega (arith, n.digits) in
    let is : units binary64 s (q + 1) k ≡ of_bits binary64 (to_bits binary64 y + 1) =
    units_bits binary64 s (q + 1) k few (longer n.lead)
    ∙ ap (λ (z : ℕ). of_bits binary64 (cond s (2 ^ 63) 0 + z)) (min-eq_left (omega (arith, n.low)))
    ∙ ap (of_bits binary64) (sym at) in
    let room : k + 53 ≤ 2097 = omega (arith, n.place) in
    subst (λ (z : Float). HasValue z s ((q + 1) * 2 ^ k) (2 ^ 1074)) is
    (units_val binary64 s (q + 1) k (lt_of_le_of_lt (mul-le-mul_right (2 ^ k) few) (lt_of_le_of_lt (le_of_eq (mul_comm (2 ^ 53) (2 ^ k) ∙ sym (pow-add 2 k 53))) (lt_of_le_of_lt (pow_mono room) (lit< tt)))))
  where
    longer : (k ≡ 0) ⊎ (2 ^ 52 ≤ q) → (k ≡ 0) ⊎ (2 ^ 52 ≤ q + 1)
    longer (inl z) = inl z
    longer (inr g) = inr (omega arith)
