-- The rule for halves, and why the program keeps it: the f64 one place past y, away from zero, where y is a whole number of few digits times 2 ^ j of the
-- smallest f64. A half goes past the middle, and nothing else reaches one, so its nearest whole number is y's with a half away from zero. Assumes nothing.
use mathlib.Core.Path.{◌≡◌, sym, ap, ◌∙◌, subst}
use mathlib.Core.Logic.{◌⊎◌, inl, inr}
use mathlib.Core.Bool.{Bool, true, false, not, cond}
use Prim.Native.Nat.{ℕ, suc, ◌+◌, ◌-◌, ◌*◌, ◌%◌, ◌^◌, ◌≤◌, ◌<◌}
use native.Mathlib.Nat.{le_of_lt, le_of_suc-le-suc, div-lt_iff_lt-mul, mul-pos, mul_assoc, eq_of_mul-eq-mul_right, lt_of_mul-lt-mul_right, mul-le-mul_right, mul-le-mul_left, mul-lt-mul_of_pos_right, div-mul-le_self, lt-div-mul-add, pow-succ'}
use native.Mathlib.Omega.{arith}
use lib.Dec.{T, lit<}
use lib.Pow.{pow_pos, pow-add, pow_mono}
use lib.Ieee.{Float, binary64, add, of_bits, to_bits, nan_bits, fits}
use lib.Ieee.Exact.{HasValue}
use lib.Ieee.Nearest.{closest, div_same}
use Rattle.float.specs.Contract.Rounding.{significand, exponent}
use Rattle.float.proofs.Rounding.{no_nan_bits}
use Rattle.float.proofs.RootLaw.{tri}
use Rattle.millimetre.specs.Millimetres.{nearest_whole}
use Rattle.millimetre.proofs.Nearest.{Near, near_one, closest_near}
use Rattle.millimetre.proofs.Next.{next_of, next_value}
use Rattle.millimetre.proofs.Placed.{unit_place, placed_bits, placed}

-- ---- the nearest whole number, of equal fractions and of one that is at most k

pub same_nearest : (a b c d : ℕ) → 0 < b → 0 < d → a * d ≡ c * b → nearest_whole a b ≡ nearest_whole c d
same_nearest a b c d B D e = div_same (2 * a + b) (2 * b) (2 * c + d) (2 * d) (mul-pos (lit< tt) B) (mul-pos (lit< tt) D) (omega arith)

pub nearest_most : (a b k : ℕ) → 0 < b → a ≤ k * b → nearest_whole a b ≤ k
nearest_most a b k B h = le_of_suc-le-suc ((div-lt_iff_lt-mul (mul-pos (lit< tt) B)).1 (omega arith))

-- ---- over whole numbers: a' is past a, and reaches no middle that a is below

past_near : (a a' b : ℕ) → 0 < b → a < a' → ((n : ℕ) → 2 * a < (2 * n + 1) * b → 2 * a' < (2 * n + 1) * b) → closest a' b ≡ nearest_whole a b
past_near a a' b B l gap = near_one a' b (closest a' b) (nearest_whole a b) B (closest_near a' b B) (near (nearest_whole a b) lo hi)
  where
    lo : nearest_whole a b * (2 * b) ≤ 2 * a + b
    lo = div-mul-le_self (2 * a + b) (2 * b)

    hi : 2 * a + b < nearest_whole a b * (2 * b) + 2 * b
    hi = lt-div-mul-add (mul-pos (lit< tt) B)

    near : (n : ℕ) → n * (2 * b) ≤ 2 * a + b → 2 * a + b < n * (2 * b) + 2 * b → Near a' b n
    near n lo hi =
        let g : 2 * a' < (2 * n + 1) * b = gap n (omega arith) in
        record { from = omega arith; to = omega arith; even_from = λ t. omega arith; even_to = λ t. omega arith }

-- an even number q of 2 ^ k, and one more, in parts of 2 ^ l
gap_of : (h k l n : ℕ) → k + 2 ≤ l → 2 * (2 * h * 2 ^ k) < (2 * n + 1) * 2 ^ l → 2 * ((2 * h + 1) * 2 ^ k) < (2 * n + 1) * 2 ^ l
gap_of h k l n r below =
    let t = l - (k + 2) in
    let split : 2 ^ l ≡ 2 ^ t * (2 ^ k * 4) = ap (λ (z : ℕ). 2 ^ z) (parts k l r) ∙ pow-add 2 t (k + 2) ∙ ap (λ (z : ℕ). 2 ^ t * z) (pow-add 2 k 2) in
    subst (λ (z : ℕ). 2 * ((2 * h + 1) * 2 ^ k) < (2 * n + 1) * z) (sym split)
    (plain (2 ^ k) (2 ^ t) (pow_pos k) (subst (λ (z : ℕ). 2 * (2 * h * 2 ^ k) < (2 * n + 1) * z) split below))
  where
    parts : (k l : ℕ) → k + 2 ≤ l → l ≡ l - (k + 2) + (k + 2)
    parts k l r = omega arith

    plain : (p t : ℕ) → 0 < p → 2 * (2 * h * p) < (2 * n + 1) * (t * (p * 4)) → 2 * ((2 * h + 1) * p) < (2 * n + 1) * (t * (p * 4))
    plain p t P b =
        let m : h < (2 * n + 1) * t = lt_of_mul-lt-mul_right (p * 4) (omega arith) in
        let w : suc h * (p * 4) ≤ (2 * n + 1) * t * (p * 4) = mul-le-mul_right (p * 4) m in
        omega arith

-- ---- the significand is even where the number has few digits

even_of : (q k v j : ℕ) → q * 2 ^ k ≡ v * 2 ^ j → v < 2 ^ 31 → 0 < j → (k ≡ 0) ⊎ (2 ^ 52 ≤ q) → (h : ℕ) × (q ≡ 2 * h)
even_of q k v j e few up lead = go (tri k j)
  where
    below : k < j → (h : ℕ) × (q ≡ 2 * h)
    below l =
        let d = j - suc k in
        let parts : j ≡ suc d + k = omega arith in
        let w : 2 ^ j ≡ 2 ^ suc d * 2 ^ k = ap (λ (z : ℕ). 2 ^ z) parts ∙ pow-add 2 (suc d) k in
        let r : q ≡ v * 2 ^ suc d = eq_of_mul-eq-mul_right (2 ^ k) (pow_pos k) q (v * 2 ^ suc d) (e ∙ ap (λ (z : ℕ). v * z) w ∙ sym (mul_assoc v (2 ^ suc d) (2 ^ k))) in
        (v * 2 ^ d, r ∙ ap (λ (z : ℕ). v * z) (pow-succ' 2 d) ∙ turn v (2 ^ d))
      where
        turn : (v p : ℕ) → v * (2 * p) ≡ 2 * (v * p)
        turn v p = omega arith

    above : j ≤ k → ⊥
    above l =
        let d = k - j in
        let parts : k ≡ d + j = omega arith in
        let w : 2 ^ k ≡ 2 ^ d * 2 ^ j = ap (λ (z : ℕ). 2 ^ z) parts ∙ pow-add 2 d j in
        let r : q * 2 ^ d ≡ v = eq_of_mul-eq-mul_right (2 ^ j) (pow_pos j) (q * 2 ^ d) v (mul_assoc q (2 ^ d) (2 ^ j) ∙ ap (λ (z : ℕ). q * z) (sym w) ∙ e) in
        let m : q * 1 ≤ q * 2 ^ d = mul-le-mul_left q (pow_pos d) in
        few_lead lead m r
      where
        few_lead : (k ≡ 0) ⊎ (2 ^ 52 ≤ q) → q * 1 ≤ q * 2 ^ (k - j) → q * 2 ^ (k - j) ≡ v → ⊥
        few_lead (inl z) m r = omega arith
        few_lead (inr g) m r = omega arith

    go : (k < j) ⊎ ((k ≡ j) ⊎ (j < k)) → (h : ℕ) × (q ≡ 2 * h)
    go (inl l) = below l
    go (inr (inl e)) = absurd (above (omega arith))
    go (inr (inr l)) = absurd (above (omega arith))

-- ---- the law: beside 1.5 * 2 ^ 52 the next number is y to the nearest whole number, a half away from zero

-- what the program adds up of the product y
abbrev pub summed : Float → Float
summed y = add binary64 (of_bits binary64 (to_bits binary64 y + 1)) unit_place

pub record Rounds (y : Float) (s : Bool) (n : ℕ) : Type 0 where
  pub fits : to_bits binary64 y + 1 < 2 ^ 64
  pub known : T (not (nan_bits binary64 (to_bits binary64 y + 1)))
  pub sum : summed y ≡ of_bits binary64 (placed_bits s n)

pub rounds : (y : Float) (s : Bool) (v j : ℕ) → T (fits binary64 y) → HasValue y s (v * 2 ^ j) (2 ^ 1074) → v < 2 ^ 31 → 0 < j → v * 2 ^ j < 2 ^ 50 * 2 ^ 1074
    → Rounds y s (nearest_whole (v * 2 ^ j) (2 ^ 1074))
rounds y s v j f h few up small =
    let b = to_bits binary64 y in
    let q = significand binary64 b in
    let k = exponent binary64 b in
    let r = next_of y s (v * 2 ^ j) f h (le_of_lt small) in
    let n = r.0 in
    let half = even_of q k v j r.1 few up n.lead in
    let a' = (q + 1) * 2 ^ k in
    let more : q * 2 ^ k < a' = mul-lt-mul_of_pos_right (omega arith) (pow_pos k) in
    let gap : (m : ℕ) → 2 * (q * 2 ^ k) < (2 * m + 1) * 2 ^ 1074 → 2 * a' < (2 * m + 1) * 2 ^ 1074 =
    subst (λ (z : ℕ). (m : ℕ) → 2 * (z * 2 ^ k) < (2 * m + 1) * 2 ^ 1074 → 2 * ((z + 1) * 2 ^ k) < (2 * m + 1) * 2 ^ 1074) (sym half.1) (λ m. gap_of half.0 k 1074 m n.place) in
    let below : a' < 2 ^ 51 * 2 ^ 1074 = limit q k (subst (λ (z : ℕ). z < 2 ^ 50 * 2 ^ 1074) (sym r.1) small) n.place in
    record {
      fits = room s (k * 2 ^ 52 + q) b n.bits n.low;
      known = no_nan_bits binary64 (b + 1) (next_low s (k * 2 ^ 52 + q) b n.bits n.low);
      sum =
          placed (of_bits binary64 (b + 1)) s a' (2 ^ 1074) (pow_pos 1074) (next_value y s q k n) below
          ∙ ap (λ (z : ℕ). of_bits binary64 (placed_bits s z)) (past_near (q * 2 ^ k) a' (2 ^ 1074) (pow_pos 1074) more gap ∙ ap (λ (z : ℕ). nearest_whole z (2 ^ 1074)) r.1);
    }
  where
    limit : (q k : ℕ) → q * 2 ^ k < 2 ^ 50 * 2 ^ 1074 → k + 2 ≤ 1074 → (q + 1) * 2 ^ k < 2 ^ 51 * 2 ^ 1074
    limit q k l r =
        let low-place : k ≤ 1074 = omega arith in
        plain (2 ^ k) (2 ^ 1074) (pow_pos 1074) (pow_mono low-place) l
      where
        plain : (p u : ℕ) → 0 < u → p ≤ u → q * p < 2 ^ 50 * u → (q + 1) * p < 2 ^ 51 * u
        plain p u U h l = omega arith

    room : (s : Bool) (z b : ℕ) → b ≡ cond s (2 ^ 63) 0 + z → z ≤ 0x4310_0000_0000_0000 → b + 1 < 2 ^ 64
    room true z b e h = omega arith
    room false z b e h = omega arith

    next_low : (s : Bool) (z b : ℕ) → b ≡ cond s (2 ^ 63) 0 + z → z ≤ 0x4310_0000_0000_0000 → (b + 1) % 2 ^ 63 ≤ 2047 * 2 ^ 52
    next_low true z b e h = omega arith
    next_low false z b e h = omega arith
