-- A number below 2 ^ 51 in size added to 1.5 * 2 ^ 52 as f64s: the units stand in the last place of the sum, so it is rounded to the nearest whole number,
-- a tie to the even one, and its pattern is that of 1.5 * 2 ^ 52 with this number added or taken off. Assumes nothing.
use mathlib.Core.Path.{◌≡◌, refl, sym, ap, ◌∙◌, subst}
use mathlib.Core.Logic.{inr}
use mathlib.Core.Bool.{Bool, true, false, not, cond}
use Prim.Native.Nat.{ℕ, suc, ◌+◌, ◌-◌, ◌*◌, ◌/◌, ◌^◌, ◌≤◌, ◌<◌, min}
use native.Mathlib.Nat.{le_of_eq, mul-one, le-div_iff_mul-le, div-lt_iff_lt-mul, min-eq_left, lt_of_mul-lt-mul_right, mul_right_comm, mul-lt-mul_of_pos_right, lt_of_lt_of_le, lt_of_le_of_lt}
use native.Mathlib.Omega.{arith}
use lib.IntN.{ℤ, pos, negsuc, neg_ℤ, ◌+ℤ◌, ◌-ℤ◌, +ℤ_comm, +ℤ-neg_ℤ_cancel, pos-+ℤ-pos}
use lib.Dec.{T, ltb}
use lib.Pow.{pow_pos}
use borrow.Author.Tests.{lt-ltb}
use lib.Ieee.{Float, nan, inf, fin, binary64, up, down, round, sum, add, of_bits, to_bits, is_nan}
use lib.Ieee.Fits.{down_pos}
use lib.Ieee.Bits.{nan_bits_is, to_bits-of_bits}
use lib.Ieee.Exact.{HasValue}
use lib.Ieee.Nearest.{closest, closest_same}
use Rattle.float.proofs.Rounding.{round_shifted, no_nan_bits}
use Rattle.millimetre.specs.Millimetres.{signed}
use Rattle.millimetre.proofs.Nearest.{closest_near, closest_on, closest_less, near_le}

abbrev pub unit_place : Float
unit_place = of_bits binary64 0x4338_0000_0000_0000

unit_place_lem : unit_place ≡ fin false 3 (pos 51)
unfolding of_bits
unit_place_lem = refl

-- ---- a fraction from 2 ^ 52 on and below 2 ^ 53, rounded

-- over a power of two
round_power : (n b : ℕ) → 2 ^ 52 * 2 ^ b ≤ n → n < 2 ^ 53 * 2 ^ b → round binary64 false n (2 ^ b) ≡ of_bits binary64 (1074 * 2 ^ 52 + closest n (2 ^ b))
round_power n b lo hi =
    let whole : n * 2 ^ 0 ≡ n = mul-one n in
    let from : 2 ^ 52 ≤ n * 2 ^ 0 / 2 ^ b = (le-div_iff_mul-le (pow_pos b)).1 (subst (λ (x : ℕ). 2 ^ 52 * 2 ^ b ≤ x) (sym whole) lo) in
    let to : n * 2 ^ 0 / 2 ^ b < 2 ^ 53 = (div-lt_iff_lt-mul (pow_pos b)).1 (subst (λ (x : ℕ). x < 2 ^ 53 * 2 ^ b) (sym whole) hi) in
    let most : closest n (2 ^ b) ≤ 2 ^ 53 = near_le n (2 ^ b) (closest n (2 ^ b)) (2 ^ 53) (closest_near n (2 ^ b) (pow_pos b)) (pow_pos b) (omega arith) in
    ap (λ (x : ℕ). round binary64 false x (2 ^ b)) (sym whole)
    ∙ round_shifted binary64 false n 0 b 0 b 1074 (omega arith) to (inr from)
    ∙ ap (λ (x : ℕ). of_bits binary64 (0 + min (1074 * 2 ^ 52 + closest x (2 ^ b)) (2047 * 2 ^ 52))) whole
    ∙ ap (λ (x : ℕ). of_bits binary64 (0 + x)) (min-eq_left (omega arith))
    ∙ ap (λ (x : ℕ). of_bits binary64 x) (omega arith)

power_of : (e : ℤ) → (b : ℕ) × (down e ≡ 2 ^ b)
power_of (pos k) = (0, refl)
power_of (negsuc k) = (suc k, refl)

round_place : (n : ℕ) (e : ℤ) → 2 ^ 52 * down e ≤ n → n < 2 ^ 53 * down e → round binary64 false n (down e * 1) ≡ of_bits binary64 (1074 * 2 ^ 52 + closest n (down e))
round_place n e lo hi =
    let p = power_of e in
    ap (λ (x : ℕ). round binary64 false n x) (mul-one (down e) ∙ p.1)
    ∙ round_power n p.0 (subst (λ (x : ℕ). 2 ^ 52 * x ≤ n) p.1 lo) (subst (λ (x : ℕ). n < 2 ^ 53 * x) p.1 hi)
    ∙ ap (λ (x : ℕ). of_bits binary64 (1074 * 2 ^ 52 + closest n x)) (sym p.1)

-- ---- the sum

-- the pattern of 1.5 * 2 ^ 52, n taken off it or added to it
abbrev pub placed_bits : Bool → ℕ → ℕ
placed_bits s n = cond s (0x4338_0000_0000_0000 - n) (0x4338_0000_0000_0000 + n)

sum_place : (s : Bool) (a : ℕ) (e : ℤ) → a < 2 ^ 51 * down e → sum binary64 s a false (3 * 2 ^ 51 * down e) (down e * 1) ≡ of_bits binary64 (placed_bits s (closest a (down e)))
unfolding sum
sum_place false a e h =
    let d = down e in
    round_place (a + 3 * 2 ^ 51 * d) e (omega arith) (omega arith)
    ∙ ap (λ (x : ℕ). of_bits binary64 (1074 * 2 ^ 52 + x)) (closest_on a d (3 * 2 ^ 50) (down_pos e))
    ∙ ap (λ (x : ℕ). of_bits binary64 x) (let k = closest a d in omega arith)
sum_place true a e h =
    let d = down e in
    let n = closest a d in
    let l : n ≤ 2 ^ 51 = near_le a d n (2 ^ 51) (closest_near a d (down_pos e)) (down_pos e) (omega arith) in
    ap (λ (t : Bool). cond t (round binary64 false (3 * 2 ^ 51 * d - a) (d * 1)) (round binary64 (ltb (3 * 2 ^ 51 * d) a) (a - 3 * 2 ^ 51 * d) (d * 1))) (lt-ltb a (3 * 2 ^ 51 * d) (omega arith))
    ∙ round_place (3 * 2 ^ 51 * d - a) e (omega arith) (omega arith)
    ∙ ap (λ (x : ℕ). of_bits binary64 (1074 * 2 ^ 52 + x)) (closest_less a d (3 * 2 ^ 50) (down_pos e) (omega arith))
    ∙ ap (λ (x : ℕ). of_bits binary64 x) (omega arith)

below_same : (x d a c k : ℕ) → 0 < c → x * c ≡ a * d → a < k * c → 0 < d → x < k * d
below_same x d a c k C e h D =
    lt_of_mul-lt-mul_right c
    (lt_of_le_of_lt (le_of_eq e) (lt_of_lt_of_le (mul-lt-mul_of_pos_right h D) (le_of_eq (mul_right_comm k c d))))

pub placed : (y : Float) (s : Bool) (a c : ℕ) → 0 < c → HasValue y s a c → a < 2 ^ 51 * c → add binary64 y unit_place ≡ of_bits binary64 (placed_bits s (closest a c))
unfolding add
placed nan s a c C v h = absurd v
placed (inf t) s a c C v h = absurd v
placed (fin t m e) s a c C v h =
    ap (add binary64 (fin t m e)) unit_place_lem
    ∙ ap (λ (x : ℕ). sum binary64 t x false (3 * 2 ^ 51 * down e) (down e * 1)) (mul-one (m * up e))
    ∙ sum_place t (m * up e) e (below_same (m * up e) (down e) a c (2 ^ 51) C v.1 h (down_pos e))
    ∙ ap (λ (n : ℕ). of_bits binary64 (placed_bits t n)) (closest_same (m * up e) (down e) a c (down_pos e) C v.1)
    ∙ ap (λ (t : Bool). of_bits binary64 (placed_bits t (closest a c))) v.0

-- ---- the pattern is read back

pub placed_le : (s : Bool) (n : ℕ) → n ≤ 2 ^ 51 → placed_bits s n ≤ 0x4340_0000_0000_0000
placed_le true n h = omega arith
placed_le false n h = omega arith

pub placed_no_nan : (s : Bool) (n : ℕ) → n ≤ 2 ^ 51 → T (not (is_nan (of_bits binary64 (placed_bits s n))))
placed_no_nan s n h =
    let l = placed_le s n h in
    let p = placed_bits s n in
    subst (λ (t : Bool). T (not t)) (nan_bits_is binary64 p) (no_nan_bits binary64 p (omega arith))

pub placed_back : (s : Bool) (n : ℕ) → n ≤ 2 ^ 51 → to_bits binary64 (of_bits binary64 (placed_bits s n)) ≡ placed_bits s n
placed_back s n h =
    let l = placed_le s n h in
    let p = placed_bits s n in
    to_bits-of_bits binary64 p (omega arith) (placed_no_nan s n h)

-- ---- and differs from that of 1.5 * 2 ^ 52 by the number

pub difference : (s : Bool) (n : ℕ) → n ≤ 2 ^ 51 → pos (placed_bits s n) -ℤ pos 0x4338_0000_0000_0000 ≡ signed s n
difference false n h = plus 0x4338_0000_0000_0000
  where
    plus : (p : ℕ) → pos (p + n) -ℤ pos p ≡ pos n
    plus p = ap (λ (z : ℤ). z -ℤ pos p) (sym (pos-+ℤ-pos p n) ∙ +ℤ_comm (pos p) (pos n)) ∙ +ℤ-neg_ℤ_cancel (pos n) (pos p)
difference true n h = minus 0x4338_0000_0000_0000 (omega arith)
  where
    minus : (p : ℕ) → n ≤ p → pos (p - n) -ℤ pos p ≡ neg_ℤ (pos n)
    minus p l =
        let whole : p - n + n ≡ p = omega arith in
        let back : neg_ℤ (pos n) +ℤ pos p ≡ pos (p - n) =
        ap (λ (z : ℤ). neg_ℤ (pos n) +ℤ z) (sym (ap pos whole) ∙ sym (pos-+ℤ-pos (p - n) n))
        ∙ +ℤ_comm (neg_ℤ (pos n)) (pos (p - n) +ℤ pos n)
        ∙ +ℤ-neg_ℤ_cancel (pos (p - n)) (pos n) in
        ap (λ (z : ℤ). z -ℤ pos p) (sym back) ∙ +ℤ-neg_ℤ_cancel (neg_ℤ (pos n)) (pos p)
