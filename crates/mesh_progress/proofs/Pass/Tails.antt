-- Runs of stores: a buffer's tail lent to a builder and back. Assumes nothing.
use mathlib.Core.Path.{◌≡◌, refl, sym, ap, ◌∙◌}
use mathlib.Core.Bool.{Bool, true, false, cond}
use mathlib.Core.List.{List, [], ◌∷◌, ◌++◌, append-nil}
use Prim.Native.Nat.{ℕ, suc, ◌+◌, ◌-◌, ◌≤◌}
use native.Mathlib.Nat.{le_refl, le_of_lt}
use native.Mathlib.Omega.{arith}
use lib.Dec.{leb}
use lib.ListN.{length, take, drop, set, length-drop, take-append-drop, drop_of_length-le}
use lib.Seq.{sets, set_out, take_all, length-take-le}
use borrow.Author.Tests.{leb-true, leb-false}
use Rattle.lists.proofs.Stores.{sets_append}
use Rattle.mesh_progress.specs.Contract.Pass.{clamped}

module _ {A : Type 0} where
  sets_cons : (x : A) (l : List A) (i : ℕ) (w : List A) → sets (x ∷ l) (suc i) w ≡ x ∷ sets l i w
  sets_cons x l i [] = refl
  sets_cons x l i (y ∷ w) = sets_cons x (set l i y) (suc i) w

  sets_after : (p l w : List A) → sets (p ++ l) (length p) w ≡ p ++ sets l 0 w
  sets_after [] l w = refl
  sets_after (x ∷ p) l w = sets_cons x (p ++ l) (length p) w ∙ ap (λ (r : List A). x ∷ r) (sets_after p l w)

  sets_out : (l : List A) (i : ℕ) (w : List A) → length l ≤ i → sets l i w ≡ l
  sets_out l i [] h = refl
  sets_out l i (x ∷ w) h = rw (set_out l i x h) (sets_out l (suc i) w (omega arith))

  -- the part from index a to the end, and the whole once it is back with other contents
  abbrev pub tail_of : List A → ℕ → List A
  tail_of xs a = take (length xs - a) (drop a xs)

  abbrev pub back_of : List A → ℕ → List A → List A
  back_of xs a ys = take a xs ++ (ys ++ drop (length xs - a) (drop a xs))

  tail_back : (l : List A) (a : ℕ) (w : List A) → a ≤ length l → back_of l a (sets (tail_of l a) 0 w) ≡ sets l a w
  tail_back l a w h =
      let n : length (drop a l) ≤ length l - a = rw length-drop (le_refl (length l - a)) in
      rw (take_all (length l - a) (drop a l) n, drop_of_length-le (drop a l) n, append-nil)
      (sym (sets_after (take a l) (drop a l) w) ∙ rw (length-take-le a l h, take-append-drop))

  lent_by : (xs : List A) (n : ℕ) (w : List A) (b : Bool) → leb n (length xs) ≡ b
      → back_of xs (cond b n (length xs)) (sets (tail_of xs (cond b n (length xs))) 0 w) ≡ sets xs n w
  lent_by xs n w true e = tail_back xs n w (leb-true _ _ e)
  lent_by xs n w false e =
      tail_back xs (length xs) w (le_refl _) ∙ sets_out xs (length xs) w (le_refl _) ∙ sym (sets_out xs n w (le_of_lt (leb-false _ _ e)))

  -- a run stored at the start of the lent tail is the run stored at its place, left out past the end
  pub lent_back : (xs : List A) (n : ℕ) (w : List A) → back_of xs (clamped (length xs) n) (sets (tail_of xs (clamped (length xs) n)) 0 w) ≡ sets xs n w
  unfolding clamped
  lent_back xs n w = lent_by xs n w (leb n (length xs)) refl

  pub sets_fifth : (l : List A) (i : ℕ) (a b c d e : A) → set (sets l i (a ∷ b ∷ c ∷ d ∷ [])) (i + 4) e ≡ sets l i (a ∷ b ∷ c ∷ d ∷ e ∷ [])
  sets_fifth l i a b c d e = sets_append l i (a ∷ b ∷ c ∷ d ∷ []) (e ∷ [])
