-- A fold over the elements from k on: at the start it is the whole, by computation; one element; the end. Assumes nothing.
use mathlib.Core.Path.{◌≡◌}
use mathlib.Core.List.{List}
use Prim.Native.Nat.{ℕ, ◌+◌, ◌<◌, ◌≤◌}
use native.Mathlib.Numerals.{add-one}
use lib.ListN.{length, get_or, drop, drop_of_length-le}
use lib.Seq.{drop-cons}
use Rattle.lists.specs.Loops.{fold}

module _ {A S : Type 0} (f : S → A → S) (l : List A) (k : ℕ) where
  pub fold_next : (d : A) (s s' t : S) → k < length l → s' ≡ f s (get_or l k d) → fold f s (drop k l) ≡ t → fold f s' (drop (k + 1) l) ≡ t
  unfolding fold
  fold_next d s s' t h e p = rw (add-one, e) (rw (drop-cons l k d) at p)

  pub fold_end : (s t : S) → length l ≤ k → fold f s (drop k l) ≡ t → s ≡ t
  unfolding fold
  fold_end s t h p = rw (drop_of_length-le l h) at p
