-- The square root keeps the order: of two numbers that are not below zero the larger has a root that is no smaller. It follows from `thin`, at the smaller number's root as the limit. Assumes nothing.
use mathlib.Core.Path.{◌≡◌, refl, sym, ap, ◌∙◌, subst}
use mathlib.Core.Logic.{inl, inr}
use Prim.Native.Nat.{ℕ, zero, suc, ◌+◌, ◌*◌, ◌^◌, ◌-◌, ◌≤◌, ◌<◌}
use native.Mathlib.Nat.{le_refl, eq-or-lt_of_le, eq-zero-or-pos, zero-lt-suc, le_of_suc-le-suc, lt_of_not-le}
use native.Mathlib.Omega.{arith}
use mathlib.Core.Bool.{Bool, true, false, not, ◌&&◌, ◌||◌, true≢false}
use lib.Dec.{T, ltb, eqb, lt→ltb}
use lib.Pow.{pow_pos}
use lib.Ieee.{Float, nan, inf, fin, binary32, up, down, lt, eq, le, is_nan, fits, of_bits, to_bits}
use lib.Ieee.Fits.{and_i, eq→eqb}
use lib.Ieee.Bits.{of_bits-fits}
use lib.Ieee.Exact.{HasValue}
use lib.Ieee.Positive.{num, den, den_pos, positive, own_value, le→cross, through, above, above_of_le}
use borrow.Author.Tests.{le-ltb, ltb-false}
use Rattle.float.specs.Rounding.{square_root}
use Rattle.float.specs.Contract.Thin.{thin_bound}
use Rattle.float.proofs.Thin.{naught, thin, root_low, root_of_lem, lt_no, lt_yes, apart, zero_below, below_zero, above_bound, bound_is, steps, inf_below_none, minus_infinity}

irreflexive : (x : Float) → lt x x ≡ false
unfolding lt
irreflexive nan = refl
irreflexive (inf true) = refl
irreflexive (inf false) = refl
irreflexive (fin true m e) = le-ltb (m * up e * down e) (m * up e * down e) (le_refl (m * up e * down e))
irreflexive (fin false m e) = le-ltb (m * up e * down e) (m * up e * down e) (le_refl (m * up e * down e))

-- ---- of two numbers one is at most the other

or_l : (a b : Bool) → T a → T (a || b)
or_l true b t = tt
or_l false b t = absurd t

or_r : (a b : Bool) → T b → T (a || b)
or_r true b t = tt
or_r false b t = t

same_sign : (a b : ℕ) → a ≤ b → T (ltb a b || (eqb a b && true))
same_sign a b h = elim (eq-or-lt_of_le h) [ inl p ↦ or_r (ltb a b) (eqb a b && true) (and_i (eqb a b) true (eq→eqb p) tt) | inr q ↦ or_l (ltb a b) (eqb a b && true) (lt→ltb a b q) ]

same_sign' : (a b : ℕ) → b ≤ a → T (ltb b a || (eqb a b && true))
same_sign' a b h = elim (eq-or-lt_of_le h) [ inl p ↦ or_r (ltb b a) (eqb a b && true) (and_i (eqb a b) true (eq→eqb (sym p)) tt) | inr q ↦ or_l (ltb b a) (eqb a b && true) (lt→ltb b a q) ]

zeros : (a b : ℕ) → a ≡ 0 → b ≡ 0 → T (eqb a b && (false || eqb a 0))
zeros a b p q = and_i (eqb a b) (false || eqb a 0) (eq→eqb (p ∙ sym q)) (eq→eqb p)

pub total : (x y : Float) → T (not (is_nan x)) → T (not (is_nan y)) → lt y x ≡ false → T (le x y)
unfolding le lt eq is_nan
total nan y p q h = absurd p
total (inf s) nan p q h = absurd q
total (fin s m e) nan p q h = absurd q
total (inf true) (inf true) p q h = tt
total (inf true) (inf false) p q h = tt
total (inf false) (inf true) p q h = absurd (true≢false h)
total (inf false) (inf false) p q h = tt
total (inf true) (fin t n d) p q h = tt
total (inf false) (fin t n d) p q h = absurd (true≢false h)
total (fin s m e) (inf true) p q h = absurd (true≢false h)
total (fin s m e) (inf false) p q h = tt
total (fin false m e) (fin false n d) p q h = same_sign (m * up e * down d) (n * up d * down e) (ltb-false (n * up d * down e) (m * up e * down d) h)
total (fin true m e) (fin true n d) p q h = same_sign' (m * up e * down d) (n * up d * down e) (ltb-false (m * up e * down d) (n * up d * down e) h)
total (fin false m e) (fin true n d) p q h =
    let a = m * up e * down d in
    let b = n * up d * down e in
    zeros a b (none_r a b (ltb-false 0 (b + a) h)) (none_l a b (ltb-false 0 (b + a) h))
  where
    none_l : (a b : ℕ) → b + a ≤ 0 → b ≡ 0
    none_l a b h = omega arith

    none_r : (a b : ℕ) → b + a ≤ 0 → a ≡ 0
    none_r a b h = omega arith
total (fin true m e) (fin false n d) p q h =
    let a = m * up e * down d in
    let b = n * up d * down e in
    elim (eq-zero-or-pos (a + b)) [
      | inl z ↦ or_r (ltb 0 (a + b)) (eqb a b && (false || eqb a 0)) (zeros a b (none_l a b z) (none_r a b z))
      | inr l ↦ or_l (ltb 0 (a + b)) (eqb a b && (false || eqb a 0)) (lt→ltb 0 (a + b) l)
    ]
  where
    none_l : (a b : ℕ) → a + b ≡ 0 → a ≡ 0
    none_l a b h = omega arith

    none_r : (a b : ℕ) → a + b ≡ 0 → b ≡ 0
    none_r a b h = omega arith

-- ---- the root

valued : (x : Float) (s : Bool) (a c : ℕ) → HasValue x s a c → T (not (is_nan x))
unfolding is_nan
valued nan s a c h = absurd h
valued (inf t) s a c h = tt
valued (fin t m e) s a c h = tt

pub root_fits : (x : Float) → T (fits binary32 x) → lt x naught ≡ false → T (fits binary32 (square_root binary32 x))
root_fits nan t p = unfold square_root in t
root_fits (inf true) t p = absurd (true≢false (sym minus_infinity ∙ p))
root_fits (inf false) t p = unfold square_root in t
root_fits (fin s zero e) t p = unfold square_root in t
root_fits (fin true (suc m) e) t p = absurd (true≢false (sym (below_zero m e) ∙ p))
root_fits (fin false (suc m) e) t p = let R = root_of_lem m e t in subst (λ (z : Float). T (fits binary32 z)) (sym R.1) (of_bits-fits binary32 R.0)

root_no_nan : (x : Float) → T (fits binary32 x) → lt x naught ≡ false → T (not (is_nan x)) → T (not (is_nan (square_root binary32 x)))
root_no_nan nan t p n = unfold is_nan in absurd n
root_no_nan (inf true) t p n = absurd (true≢false (sym minus_infinity ∙ p))
root_no_nan (inf false) t p n = unfold square_root is_nan in tt
root_no_nan (fin s zero e) t p n = unfold square_root is_nan in tt
root_no_nan (fin true (suc m) e) t p n = absurd (true≢false (sym (below_zero m e) ∙ p))
root_no_nan (fin false (suc m) e) t p n = let R = root_of_lem m e t in subst (λ (z : Float). T (not (is_nan z))) (sym R.1) (valued (of_bits binary32 R.0) false (steps (2 * R.0)) (2 ^ 151) R.2)

le_no_nan : (x y : Float) → T (le x y) → T (not (is_nan x)) × T (not (is_nan y))
unfolding le is_nan
le_no_nan nan y h = absurd h
le_no_nan (inf s) nan h = absurd h
le_no_nan (inf s) (inf t) h = (tt, tt)
le_no_nan (inf s) (fin t n d) h = (tt, tt)
le_no_nan (fin s m e) nan h = absurd h
le_no_nan (fin s m e) (inf t) h = (tt, tt)
le_no_nan (fin s m e) (fin t n d) h = (tt, tt)

-- what reaches a fraction above zero is reached from there on
reaches : (x y B : Float) (a c : ℕ) → 0 < c → HasValue B false a c → T (positive x) → T (above y) → T (le x y) → lt x B ≡ false → lt y B ≡ false
reaches x nan B a c C v p q h k = absurd q
reaches x (inf true) B a c C v p q h k = absurd q
reaches x (inf false) B a c C v p q h k = inf_below_none B
reaches x (fin true n d) B a c C v p q h k = absurd q
reaches x (fin false n d) B a c C v p q h k =
    let y = fin false n d in
    let low : a * den x ≤ num x * c = le_of_suc-le-suc (lt_of_not-le (λ (l : num x * c < a * den x). true≢false (sym (lt_yes x B (num x) (den x) a c (den_pos x) C (own_value x p) v l) ∙ k))) in
    lt_no y B (num y) (den y) a c (den_pos y) C (own_value y q) v (through a (num x) (num y) c (den x) (den y) (den_pos x) low (le→cross x y p q h))

higher_reaches : (x y l : Float) → T (fits binary32 x) → T (fits binary32 l) → lt naught l ≡ true → lt x naught ≡ false → T (le x y) → lt x (thin_bound l) ≡ false → lt y (thin_bound l) ≡ false
higher_reaches nan y l t u q p h k = unfold is_nan in absurd (le_no_nan nan y h).0
higher_reaches (inf true) y l t u q p h k = absurd (true≢false (sym minus_infinity ∙ p))
higher_reaches (inf false) y l t u q p h k = ap (λ (z : Float). lt z (thin_bound l)) (topmost y h) ∙ inf_below_none (thin_bound l)
  where
    topmost : (y : Float) → T (le (inf false) y) → y ≡ inf false
    topmost nan h = unfold le in absurd h
    topmost (inf true) h = unfold le in absurd h
    topmost (inf false) h = refl
    topmost (fin t n d) h = unfold le in absurd h
higher_reaches (fin s zero e) y l t u q p h k = absurd (true≢false (sym (zero_below s e (thin_bound l) (above_bound l u q)) ∙ k))
higher_reaches (fin true (suc m) e) y l t u q p h k = absurd (true≢false (sym (below_zero m e) ∙ p))
higher_reaches (fin false (suc m) e) y l t u q p h k =
    let c = 2 * to_bits binary32 l - 1 in
    let x = fin false (suc m) e in
    let P : T (positive x) = lt→ltb 0 (suc m) (zero-lt-suc m) in
    reaches x y (thin_bound l) (steps c * steps c) (2 ^ 302) (pow_pos 302) (bound_is l u q) P (above_of_le x y P h) h k

-- The larger of two numbers that are not below zero has the larger root, or the same.
pub root_mono : (x y : Float) → T (fits binary32 x) → T (fits binary32 y) → lt x naught ≡ false → lt y naught ≡ false → T (le x y) → T (le (square_root binary32 x) (square_root binary32 y))
root_mono x y t u p q h =
    let n = le_no_nan x y h in
    total (square_root binary32 x) (square_root binary32 y) (root_no_nan x t p n.0) (root_no_nan y u q n.1) (go (lt naught (square_root binary32 x)) refl)
  where
    go : (b : Bool) → lt naught (square_root binary32 x) ≡ b → lt (square_root binary32 y) (square_root binary32 x) ≡ false
    go false k = apart (square_root binary32 y) (square_root binary32 x) (root_low y u q) k
    go true k =
        let f = root_fits x t p in
        thin y (square_root binary32 x) u f q ∙ higher_reaches x y (square_root binary32 x) t f k p h (sym (thin x (square_root binary32 x) t f p) ∙ irreflexive (square_root binary32 x))
