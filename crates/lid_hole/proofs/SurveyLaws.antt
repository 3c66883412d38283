-- What is found of the holes, as the code's loop meets it: the entries of those that are skipped, and a value for each. Assumes nothing.
use mathlib.Core.Path.{◌≡◌, refl, sym, ap, ◌∙◌}
use mathlib.Core.Bool.{Bool, true, false, cond}
use mathlib.Core.List.{List, [], ◌∷◌, ◌++◌, append-nil}
use Prim.Native.Nat.{ℕ, suc, ◌+◌, ◌-◌, ◌<◌, ◌≤◌}
use native.Mathlib.Numerals.{add-one}
use native.Mathlib.Omega.{arith}
use lib.ListN.{length, take, set, length-append}
use Rattle.lists.specs.Loops.{list}
use Rattle.lists.proofs.Loops.{list_step}
use Rattle.lid.specs.Log.{Entry, entry}
use Rattle.lid.specs.Contract.Written.{log_with}
use Rattle.lid_hole.specs.Contract.Holes.{skips}
use Rattle.lid_log.proofs.RecordLaws.{log_some}
use Rattle.lists.proofs.Buffers.{fill_next}

-- ---- the entries of skipped holes

skips_few : (g : ℕ) (b : Bool) → length (skips g (b ∷ [])) ≤ 1
unfolding skips
skips_few g true = omega arith
skips_few g false = omega arith

module _ (f : ℕ → Bool) (n g : ℕ) where
  skips_step : g < n → skips g (list f (n - g) g) ≡ skips g (f g ∷ []) ++ skips (g + 1) (list f (n - (g + 1)) (g + 1))
  unfolding skips
  skips_step h = rw (list_step f n g h, add-one g) (go (f g) (skips (suc g) (list f (n - suc g) (suc g))))
    where
      go : (b : Bool) (later : List Entry) → cond b (entry 6 g 0 0 ∷ later) later ≡ cond b (entry 6 g 0 0 ∷ []) [] ++ later
      go true later = refl
      go false later = refl

  pub skips_end : n ≤ g → skips g (list f (n - g) g) ≡ []
  unfolding skips list
  skips_end h = let none : n - g ≡ 0 = omega arith in rw none

  -- one more hole: b says whether it is skipped, and k entries are r then
  module _ (h : g < n) (b : Bool) (e : b ≡ f g) (k r : ℕ) (count : r ≡ k + length (skips g (b ∷ []))) where
    pub skips_low : k ≤ g → r ≤ g + 1
    skips_low low = omega (arith, count, skips_few g b)

    pub skips_count : (t : ℕ) → k + length (skips g (list f (n - g) g)) ≡ t → r + length (skips (g + 1) (list f (n - (g + 1)) (g + 1))) ≡ t
    skips_count t inv =
        let c : r ≡ k + length (skips g (f g ∷ [])) = rw (← e) count in
        omega (arith, c, ap length (skips_step h), length-append (skips g (f g ∷ [])) (skips (g + 1) (list f (n - (g + 1)) (g + 1))), inv)

    pub skips_log : (log log₁ t : List ℕ) → log₁ ≡ log_with log k (skips g (b ∷ [])) → log_with log k (skips g (list f (n - g) g)) ≡ t
        → log_with log₁ r (skips (g + 1) (list f (n - (g + 1)) (g + 1))) ≡ t
    skips_log log log₁ t wrote inv =
        let c : r ≡ k + length (skips g (f g ∷ [])) = rw (← e) count in
        let w : log₁ ≡ log_with log k (skips g (f g ∷ [])) = rw (← e) wrote in
        log_some log _ _ k _ _ _ w c (rw (skips_step h) at inv)

-- ---- a buffer that gets the values of f, place by place

pub in_room : {g n room size : ℕ} → g < n → n ≤ room → size ≡ room → g < size
in_room h fits e = omega arith

module _ {A : Type 0} (f : ℕ → A) (l : List A) (n k : ℕ) (inv : take k l ++ list f (n - k) k ≡ list f n 0) where
  pub list_put : (v : A) → k < n → k < length l → v ≡ f k → take (k + 1) (set l k v) ++ list f (n - (k + 1)) (k + 1) ≡ list f n 0
  list_put v h room e =
      fill_next l k v (list f (n - (k + 1)) (k + 1)) (list f n 0) room
      (rw (e, add-one k) (ap (λ (r : List A). take k l ++ r) (sym (list_step f n k h)) ∙ inv))

  pub list_put_end : n ≤ k → k ≤ n → take n l ≡ list f n 0
  unfolding list
  list_put_end h low =
      let none : n - k ≡ 0 = omega arith in
      let all : n ≡ k = omega arith in
      ap (λ (i : ℕ). take i l) all ∙ sym (append-nil (take k l)) ∙ (rw none at inv)
