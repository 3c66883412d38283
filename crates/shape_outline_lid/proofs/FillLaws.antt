-- Buffers filled from their start. Assumes nothing.
use mathlib.Core.Path.{◌≡◌, sym, ap, ap₂, subst, ◌∙◌}
use Prim.Native.Nat.{ℕ, ◌+◌, ◌*◌, ◌<◌, ◌≤◌}
use native.Mathlib.Nat.{zero-add}
use native.Mathlib.Numerals.{add-one}
use native.Mathlib.Omega.{arith}
use mathlib.Core.List.{List, [], ◌∷◌, ◌++◌}
use lib.ListN.{length, set, take, drop, length-drop}
use lib.Seq.{sets, sets-eq, take-append_seam, take-suc-set, take-set-le, drop-set-lt, drop-set-add}
use Rattle.lists.specs.Loops.{list}
use Rattle.lists.proofs.Lists.{list_append}

-- a list filled from its start, and its front
pub fill_front : {A : Type 0} (l w : List A) → length w ≤ length l → take (length w) (sets l 0 w) ≡ w
fill_front l w h = ap (take (length w)) (sets-eq w l 0 (omega arith)) ∙ take-append_seam w (drop (0 + length w) l)

-- the front of a list that is filled from its start, after one store
pub front_next : {A : Type 0} (f : ℕ → A) (l : List A) (k : ℕ) (x : A) → k < length l → x ≡ f k → take k l ≡ list f k 0 → take (k + 1) (set l k x) ≡ list f (k + 1) 0
unfolding list
front_next {A = A} f l k x h g e =
    ap (λ (j : ℕ). take j (set l k x)) (add-one k)
    ∙ take-suc-set l k x h
    ∙ ap₂ (λ (w : List A) (y : A). w ++ (y ∷ [])) e (g ∙ ap f (sym (zero-add k)))
    ∙ sym (list_append f k 1 0)

-- and at the loop's end
pub front_end : {A : Type 0} (f : ℕ → A) (l : List A) (n k : ℕ) → k ≡ n → take k l ≡ list f k 0 → take n l ≡ list f n 0
front_end {A = A} f l n k h e = subst (λ (j : ℕ). take j l ≡ list f j 0) h e

-- two lists in one, the second from place n on, after one store to each
module _ {A : Type 0} (f g : ℕ → A) (l : List A) (n k : ℕ) (x y : A) (h : k < n) (room : 2 * n ≤ length l) where
  pub first_next : x ≡ f k → take k l ≡ list f k 0 → take (k + 1) (set (set l k x) (n + k) y) ≡ list f (k + 1) 0
  first_next p e = take-set-le (k + 1) (set l k x) (n + k) y (omega arith) ∙ front_next f l k x (omega arith) p e

  pub second_next : y ≡ g k → take k (drop n l) ≡ list g k 0 → take (k + 1) (drop n (set (set l k x) (n + k) y)) ≡ list g (k + 1) 0
  second_next p e =
      ap (take (k + 1)) (drop-set-add n (set l k x) k y ∙ ap (λ (w : List A). set w k y) (drop-set-lt n l k x h))
      ∙ front_next g (drop n l) k y (simp length-drop (omega arith)) p e
