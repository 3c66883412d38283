-- Records written into a buffer one behind the other, as the code's stores leave them. Assumes nothing.
use mathlib.Core.Path.{◌≡◌, refl, ◌∙◌}
use mathlib.Core.List.{List, [], ◌∷◌, ◌++◌}
use Prim.Native.Nat.{ℕ, ◌+◌, ◌*◌}
use lib.ListN.{length}
use lib.Seq.{sets}
use Rattle.lists.specs.Loops.{join}
use Rattle.lists.proofs.Stores.{records_behind}
use Rattle.face_triangle.specs.Triangles.{Triangle}
use Rattle.lid.specs.Log.{Entry, entry_record, log_numbers}
use Rattle.lid.specs.Contract.Written.{triangle_record, triangle_numbers, log_with, triangles_with}

-- records of w numbers each: some were written, and the rest goes behind them
module _ {A : Type 0} (write : A → List ℕ) (w : ℕ) (size : (a : A) → length (write a) ≡ w) where
  some_more : (l l' t : List ℕ) (n n' : ℕ) (xs ys : List A) → l' ≡ sets l (w * n) (join write xs) → n' ≡ n + length xs → sets l (w * n) (join write (xs ++ ys)) ≡ t
      → sets l' (w * n') (join write ys) ≡ t
  some_more l l' t n n' xs ys e k p = rw (e, k) (records_behind write w size l n xs ys ∙ p)

module _ (l l' t : List ℕ) (n n' : ℕ) where
  pub log_some : (xs ys : List Entry) → l' ≡ log_with l n xs → n' ≡ n + length xs → log_with l n (xs ++ ys) ≡ t → log_with l' n' ys ≡ t
  unfolding log_numbers
  log_some xs ys = some_more entry_record 4 (λ a. refl) l l' t n n' xs ys

  pub triangles_some : (xs ys : List Triangle) → l' ≡ triangles_with l n xs → n' ≡ n + length xs → triangles_with l n (xs ++ ys) ≡ t → triangles_with l' n' ys ≡ t
  unfolding triangle_numbers
  triangles_some xs ys = some_more triangle_record 3 (λ a. refl) l l' t n n' xs ys

pub log_next : (l l' t : List ℕ) (n : ℕ) (e : Entry) (es : List Entry) → l' ≡ log_with l n (e ∷ []) → log_with l n (e ∷ es) ≡ t → log_with l' (n + 1) es ≡ t
log_next l l' t n e es w p = log_some l l' t n (n + 1) (e ∷ []) es w refl p

pub log_end : (l t : List ℕ) (n : ℕ) → log_with l n [] ≡ t → l ≡ t
unfolding log_numbers join
log_end l t n p = p

pub triangle_end : (l t : List ℕ) (n : ℕ) → triangles_with l n [] ≡ t → l ≡ t
unfolding triangle_numbers join
triangle_end l t n p = p
