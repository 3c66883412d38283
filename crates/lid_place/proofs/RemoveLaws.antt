-- An element taken out of a list by moving those before it up. Assumes nothing.
use mathlib.Core.Path.{◌≡◌, refl, ap, ◌∙◌}
use mathlib.Core.List.{List, [], ◌∷◌, ◌++◌}
use Prim.Native.Nat.{ℕ, zero, suc, ◌+◌, ◌-◌, ◌<◌, ◌≤◌}
use native.Mathlib.Nat.{le_of_suc-le-suc, not-suc-le-zero}
use native.Mathlib.Numerals.{add-one}
use native.Mathlib.Omega.{arith}
use lib.ListN.{length, get_or, take, drop, set}
use Rattle.lists.specs.Loops.{remove_at}

-- an element moved up over the one to be taken out leaves the one before to be taken out
remove_up : {A : Type 0} (d : A) (l : List A) (j : ℕ) → suc j < length l → remove_at j (set l (suc j) (get_or l j d)) ≡ remove_at (suc j) l
unfolding remove_at
remove_up d [] j h = absurd (not-suc-le-zero h)
remove_up d (x ∷ []) j h = absurd (not-suc-le-zero (le_of_suc-le-suc h))
remove_up d (x ∷ (y ∷ ys)) zero h = refl
remove_up {A} d (x ∷ (y ∷ ys)) (suc j) h = ap (λ (r : List A). x ∷ r) (remove_up d (y ∷ ys) j (le_of_suc-le-suc h))

pub first_kept : {A : Type 0} (l : List A) (j : ℕ) (v : A) → take 1 (set l (suc j) v) ≡ take 1 l
first_kept [] j v = refl
first_kept (x ∷ xs) j v = refl

first_out : {A : Type 0} (l : List A) → l ≡ take 1 l ++ remove_at 0 l
unfolding remove_at
first_out [] = refl
first_out (x ∷ xs) = refl

-- the loop: the element at place j of the present list is left to be taken out, and the first place is as it was
pub record Removing {A : Type 0} (old : List A) (i : ℕ) (new : List A) (j : ℕ) : Type 0 where
  pub left : remove_at j new ≡ remove_at i old
  pub first : take 1 new ≡ take 1 old

module _ {A : Type 0} (old : List A) (i : ℕ) where
  pub removing_next : (new : List A) (j : ℕ) (v : A) → 0 < j → j < length new → v ≡ get_or new (j - 1) v → Removing old i new j
      → Removing old i (set new (j - 1 + 1) v) (j - 1)
  removing_next new zero v h b e r = absurd (not-suc-le-zero h)
  removing_next new (suc j) v h b e r =
      let low : suc j - 1 ≡ j = omega arith in
      let same : v ≡ get_or new j v = rw low at e in
      rw (low, add-one) (record {
        left = ap (λ (w : A). remove_at j (set new (suc j) w)) same ∙ remove_up v new j b ∙ r.left;
        first = first_kept new j v ∙ r.first;
      })

  pub removing_end : (new : List A) (j : ℕ) → j ≤ 0 → Removing old i new j → new ≡ take 1 old ++ remove_at i old
  removing_end new zero h r = first_out new ∙ rw (r.first, r.left)
  removing_end new (suc j) h r = absurd (not-suc-le-zero h)

-- the others are the last ones
pub removed_behind : {A : Type 0} (i : ℕ) (old new : List A) → i < length old → new ≡ take 1 old ++ remove_at i old → drop 1 new ≡ remove_at i old
removed_behind i [] new h e = absurd (not-suc-le-zero h)
removed_behind i (x ∷ xs) new h e = ap (drop 1) e
