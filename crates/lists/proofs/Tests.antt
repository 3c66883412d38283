-- A loop that tests f 0, f 1, .. one by one and ends at the first that fails, and a loop that adds them up. Assumes nothing.
use mathlib.Core.Path.{◌≡◌, sym, ap, ◌∙◌}
use Prim.Native.Nat.{ℕ, suc, ◌+◌, ◌-◌, ◌≤◌, ◌<◌}
use native.Mathlib.Numerals.{add-one}
use native.Mathlib.Nat.{sub-zero, zero-add}
use native.Mathlib.Omega.{arith}
use mathlib.Core.Bool.{Bool, true, false, ◌&&◌}
use mathlib.Core.List.{[]}
use Rattle.lists.specs.Loops.{every, list, sum_of}
use Rattle.lists.proofs.Loops.{list_step}

pub list_none : {A : Type 0} (f : ℕ → A) (n k : ℕ) → n ≤ k → list f (n - k) k ≡ []
unfolding list
list_none f n k h = ap (λ (m : ℕ). list f m k) (none n k h)
  where
    none : (n k : ℕ) → n ≤ k → n - k ≡ 0
    none n k h = omega arith

-- the facts that the invariant `every p (list f (n - k) k) ≡ t` asks for: at the start, where a test fails, after one turn of the loop, and at the end
module _ {A : Type 0} (p : A → Bool) (f : ℕ → A) (n : ℕ) where
  pub every_start : every p (list f (n - 0) 0) ≡ every p (list f n 0)
  every_start = ap (λ (m : ℕ). every p (list f m 0)) (sub-zero n)

  every_step : (k : ℕ) (b : Bool) → k < n → p (f k) ≡ b → every p (list f (n - k) k) ≡ (b && every p (list f (n - suc k) (suc k)))
  unfolding every
  every_step k b h e = ap (every p) (list_step f n k h) ∙ ap (λ (c : Bool). c && every p (list f (n - suc k) (suc k))) e

  pub every_fails : (k : ℕ) (t : Bool) → k < n → p (f k) ≡ false → every p (list f (n - k) k) ≡ t → false ≡ t
  every_fails k t h e q = sym (every_step k false h e) ∙ q

  pub every_next : (k : ℕ) (t : Bool) → k < n → p (f k) ≡ true → every p (list f (n - k) k) ≡ t → every p (list f (n - (k + 1)) (k + 1)) ≡ t
  every_next k t h e q = ap (λ (m : ℕ). every p (list f (n - m) m)) (add-one k) ∙ sym (every_step k true h e) ∙ q

  pub every_end : (k : ℕ) (t : Bool) → n ≤ k → every p (list f (n - k) k) ≡ t → true ≡ t
  unfolding every
  every_end k t h q = sym (ap (every p) (list_none f n k h)) ∙ q

-- the same for the invariant `sum + sum_of .. ≡ t`
module _ (f : ℕ → ℕ) (n : ℕ) where
  abbrev sum_from : ℕ → ℕ
  sum_from k = sum_of (λ j. j) (list f (n - k) k)

  pub sum_start : 0 + sum_from 0 ≡ sum_of (λ j. j) (list f n 0)
  sum_start = zero-add (sum_from 0) ∙ ap (λ (m : ℕ). sum_of (λ j. j) (list f m 0)) (sub-zero n)

  sum_step : (k : ℕ) → k < n → sum_from k ≡ f k + sum_from (k + 1)
  unfolding sum_of
  sum_step k h = ap (sum_of (λ j. j)) (list_step f n k h) ∙ ap (λ (m : ℕ). f k + sum_from m) (sym (add-one k))

  pub sum_next : (k sum t : ℕ) → k < n → sum + sum_from k ≡ t → sum + f k + sum_from (k + 1) ≡ t
  sum_next k sum t h q = omega (arith, sum_step k h)

  pub sum_end : (k sum t : ℕ) → n ≤ k → sum + sum_from k ≡ t → sum ≡ t
  unfolding sum_of
  sum_end k sum t h q = let e : sum_from k ≡ 0 = ap (sum_of (λ j. j)) (list_none f n k h) in omega arith
