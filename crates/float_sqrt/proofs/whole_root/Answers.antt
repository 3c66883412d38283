-- `float_sqrt::whole_root` meets its contract: whatever the guess is, the first loop brings r down until its square is at most n, and the second up until the next square is above n. Assumes nothing.
use Rattle.std.proofs.Common.{add-one, ap, arith, eq-zero-or-pos, inl, inr, le_of_eq, le_of_lt, le_trans, lit<, lit≤, lt_irrefl, lt_of_le_of_lt, lt_of_lt_of_le, lt_of_not-le, mul-le-mul, mul-le-mul_left, mul-one, rules, subst, zero-mul, ℕ, ◌*◌, ◌+◌, ◌-◌, ◌<◌, ◌^◌, ◌≡◌, ◌≤◌}
use Rattle.float.proofs.Root.{root_unique}
use Rattle.float_sqrt.proofs.whole_root.Goals as goal

small_square : (r : ℕ) → r ≤ 2 ^ 26 → r * r < 2 ^ 64
small_square r h = lt_of_le_of_lt (mul-le-mul h h) (lit< tt)

not_zero : (n r : ℕ) → n < r * r → 1 ≤ r
not_zero n r h = elim (eq-zero-or-pos r) [ inl z ↦ absurd (none n (r * r) h (ap (λ (x : ℕ). x * r) z) (zero-mul r)) | inr p ↦ p ]
  where
    none : (n s : ℕ) {t : ℕ} → n < s → s ≡ t → t ≡ 0 → ⊥
    none n s h e f = omega arith

own_square : (r : ℕ) → 1 ≤ r → r ≤ r * r
own_square r h = le_trans (le_of_eq (mathlib.Core.Path.sym (mul-one r))) (mul-le-mul_left r h)

still_small : (n r : ℕ) → n < 2 ^ 50 → r * r ≤ n → r < 2 ^ 26
still_small n r h l = lt_of_not-le (λ (g : 2 ^ 26 ≤ r). lt_irrefl n (lt_of_lt_of_le h (le_trans (lit≤ tt) (le_trans (mul-le-mul g g) l))))

nearer : (n r : ℕ) → (r + 1) * (r + 1) ≤ n → n - (r + 1) < n - r
nearer n r h = go n (r + 1) r (le_trans (own_square (r + 1) (one r)) h) (ap (λ (x : ℕ). x) mathlib.Core.Path.refl)
  where
    one : (r : ℕ) → 1 ≤ r + 1
    one r = omega arith

    go : (n s r : ℕ) → s ≤ n → s ≡ r + 1 → n - s < n - r
    go n s r h e = omega arith

pub overflow_mul-r : goal.overflow_mul-r
overflow_mul-r c = record { fits = small_square c.loop-r.r (le_of_lt c.loop-r.invariant) }

pub overflow_sub-r : goal.overflow_sub-r
overflow_sub-r c = not_zero c.args.n c.loop-r.r c.loop-r-test.true

pub loop-r-smaller : goal.loop-r-smaller
loop-r-smaller c = omega (arith, not_zero c.args.n c.loop-r.r c.loop-r-test.true)

pub loop-r-2-init : goal.loop-r-2-init
loop-r-2-init c = (c.loop-r.invariant, c.loop-r-test.false)

pub overflow_mul-r-in-loop-r-2 : goal.overflow_mul-r-in-loop-r-2
overflow_mul-r-in-loop-r-2 c = record { fits = small_square (c.loop-r-2.r + 1) (search rules) }

pub loop-r-2-smaller : goal.loop-r-2-smaller
loop-r-2-smaller c = nearer c.args.n c.loop-r-2.r c.loop-r-2-test.true

pub loop-r-2-preserved : goal.loop-r-2-preserved
loop-r-2-preserved c = (still_small c.args.n (c.loop-r-2.r + 1) c.requires.0 c.loop-r-2-test.true, c.loop-r-2-test.true)

pub returns : goal.returns
returns c = let n = c.args.n in
    root_unique n c.loop-r-2.r c.loop-r-2.invariant.1 (subst (λ (x : ℕ). n < x * x) (add-one c.loop-r-2.r) c.loop-r-2-test.false)
