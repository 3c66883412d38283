-- A search over the numbers from k on, as one over the list that they number. Assumes nothing.
use mathlib.Core.Path.{◌≡◌, refl, ap, ◌∙◌}
use mathlib.Core.Bool.{Bool, ◌||◌}
use Prim.Native.Nat.{ℕ, zero, suc}
use native.Mathlib.Numerals.{add-one}
use Rattle.std.specs.List.{range_with_len, list_any}
use Rattle.lists.specs.Loops.{list, some}

pub any_some : {A : Type 0} (p : A → Bool) (f : ℕ → A) (n k : ℕ) → list_any (λ i. p (f i)) (range_with_len k n) ≡ some p (list f n k)
unfolding some list
any_some p f zero k = refl
any_some p f (suc n) k = ap (λ (b : Bool). p (f k) || b) (ap (λ (j : ℕ). list_any (λ i. p (f i)) (range_with_len j n)) (add-one k) ∙ any_some p f n (suc k))
