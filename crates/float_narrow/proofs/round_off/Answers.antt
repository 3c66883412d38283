-- `float_narrow::round_off` meets its contract. The number of halves decides: an even one is below the middle, and an odd one is on it or above it, by what lies below the halves. Assumes nothing.
use Rattle.std.proofs.Common.{add-one, ap, arith, div-add-mod', div-le_self, div-mul-le_self, eq-zero-or-pos, inl, inr, lt_of_le_of_lt, mod-eq_of_lt, mod-lt, mul_comm, one-mul, pow-suc, pow_pos, subst, suc, sym, zero-mul, ℕ, ◌%◌, ◌*◌, ◌+◌, ◌-◌, ◌/◌, ◌<◌, ◌^◌, ◌∙◌, ◌≡◌}
use Prim.Native.Nat.{compare, Ordering}
use native.Mathlib.Nat.{div-div-eq-div-mul}
use lib.Arith.{mod-mul}
use lib.Ieee.{nearest}
use lib.Ieee.Nearest.{closest}
use Rattle.float.proofs.Rounding.{compare_lt, compare_same, compare_gt}
use Rattle.float_narrow.proofs.round_off.Goals as goal

-- p is the weight of a half
module _ (w p : ℕ) (P : 0 < p) where
  whole : w / p / 2 ≡ w / (p * 2)
  whole = div-div-eq-div-mul w p 2

  rest : w % (p * 2) ≡ w / p % 2 * p + w % p
  rest = ap (λ (x : ℕ). w % x) (mul_comm p 2) ∙ mod-mul w (native.Mathlib.Nat.zero-lt-suc 1) P

  decided : (o : Ordering) → compare (w % (p * 2) * 2) (p * 2) ≡ o → nearest (w / p / 2) o ≡ closest w (p * 2)
  decided o e = ap (λ (x : Ordering). nearest (w / p / 2) x) (sym e) ∙ ap (λ (x : ℕ). nearest x (compare (w % (p * 2) * 2) (p * 2))) whole

  below : w / p % 2 ≡ 0 → w / p / 2 ≡ closest w (p * 2)
  below z = decided Ordering.lt (compare_lt (w % (p * 2) * 2) (p * 2) (twice (w % (p * 2)) (w % p) p (rest ∙ ap (λ (x : ℕ). x * p + w % p) z ∙ ap (λ (x : ℕ). x + w % p) (zero-mul p)) (mod-lt w P)))
    where
      twice : (r l p : ℕ) → r ≡ 0 + l → l < p → r * 2 < p * 2
      twice r l p e h = omega arith

  odd_rest : w / p % 2 ≡ 1 → w % (p * 2) ≡ p + w % p
  odd_rest o = rest ∙ ap (λ (x : ℕ). x * p + w % p) o ∙ ap (λ (x : ℕ). x + w % p) (one-mul p)

  tie_even : w / p % 2 ≡ 1 → w % p ≡ 0 → w / p / 2 + w / p / 2 % 2 ≡ closest w (p * 2)
  tie_even o z = decided Ordering.eq (ap (λ (x : ℕ). compare (x * 2) (p * 2)) (odd_rest o ∙ ap (λ (x : ℕ). p + x) z ∙ native.Mathlib.Nat.add-zero p) ∙ compare_same (p * 2))

  above : w / p % 2 ≡ 1 → 0 < w % p → w / p / 2 + 1 ≡ closest w (p * 2)
  above o h = add-one (w / p / 2) ∙ decided Ordering.gt (compare_gt (w % (p * 2) * 2) (p * 2) (more (w % (p * 2)) (w % p) p (odd_rest o) h))
    where
      more : (r l p : ℕ) → r ≡ p + l → 0 < l → p * 2 < r * 2
      more r l p e h = omega arith

-- 2 ^ d is twice the weight of a half
unit : (d : ℕ) → 0 < d → 2 ^ (d - 1) * 2 ≡ 2 ^ d
unit d h = sym (pow-suc 2 (d - 1)) ∙ ap (λ (x : ℕ). 2 ^ x) (back d h)
  where
    back : (d : ℕ) → 0 < d → suc (d - 1) ≡ d
    back d h = omega arith

is_odd : (x : ℕ) → (x % 2 ≡ 0 → ⊥) → x % 2 ≡ 1
is_odd x h = omega arith

-- the halves put back lose nothing
put_back : (w d : ℕ) → w < 2 ^ 64 → w / 2 ^ d * 2 ^ d % 2 ^ 64 ≡ w / 2 ^ d * 2 ^ d
put_back w d h = mod-eq_of_lt (lt_of_le_of_lt (div-mul-le_self w (2 ^ d)) h)

none_left : (a r w : ℕ) → a + r ≡ w → w ≡ a → r ≡ 0
none_left a r w e h = omega arith

some_left : (a r w : ℕ) → a + r ≡ w → (w ≡ a → ⊥) → 0 < r
some_left a r w e h = elim (eq-zero-or-pos r) [ inl z ↦ absurd (h (back a r w e z)) | inr p ↦ p ]
  where
    back : (a r w : ℕ) → a + r ≡ w → r ≡ 0 → w ≡ a
    back a r w e z = omega arith

half_fits : (w p : ℕ) → w < 2 ^ 64 → w / p / 2 + 1 < 2 ^ 64
half_fits w p h = small (w / p) (lt_of_le_of_lt (div-le_self w p) h)
  where
    small : (x : ℕ) → x < 2 ^ 64 → x / 2 + 1 < 2 ^ 64
    small x h = omega arith

pub returns-then-half-eq0 : goal.returns-then-half-eq0
returns-then-half-eq0 c = let w = c.args.w in
    let d = c.args.d in
    subst (λ (u : ℕ). w / 2 ^ (d - 1) / 2 ≡ closest w u) (unit d c.requires.0) (below w (2 ^ (d - 1)) (pow_pos (d - 1)) c.if-half-eq0.true)

pub overflow_add-result : goal.overflow_add-result
overflow_add-result c = omega (arith, half_fits c.args.w (2 ^ (c.args.d - 1)) c.ranges.w.fits)

pub returns-then-w-half : goal.returns-then-w-half
returns-then-w-half c = let w = c.args.w in
    let d = c.args.d in
    let p = 2 ^ (d - 1) in
    subst (λ (u : ℕ). w / p / 2 + w / p / 2 % 2 ≡ closest w u) (unit d c.requires.0)
    (tie_even w p (pow_pos (d - 1)) (is_odd (w / p) c.if-half-eq0.false)
    (none_left (w / p * p) (w % p) w (div-add-mod' w p) (c.if-w-half.true ∙ put_back w (d - 1) c.ranges.w.fits)))

pub overflow_add-result-2 : goal.overflow_add-result-2
overflow_add-result-2 c = omega (arith, half_fits c.args.w (2 ^ (c.args.d - 1)) c.ranges.w.fits)

pub returns : goal.returns
returns c = let w = c.args.w in
    let d = c.args.d in
    let p = 2 ^ (d - 1) in
    subst (λ (u : ℕ). w / p / 2 + 1 ≡ closest w u) (unit d c.requires.0)
    (above w p (pow_pos (d - 1)) (is_odd (w / p) c.if-half-eq0.false)
    (some_left (w / p * p) (w % p) w (div-add-mod' w p) (λ e. c.if-w-half.false (e ∙ sym (put_back w (d - 1) c.ranges.w.fits)))))
