-- A hole's place in joining order, and the hole put there in a buffer. Assumes nothing.
use mathlib.Core.Path.{◌≡◌, refl, sym, ap, ◌∙◌}
use mathlib.Core.Bool.{Bool, true, false}
use mathlib.Core.List.{List, [], ◌∷◌, ◌++◌, append_assoc}
use Prim.Native.Nat.{ℕ, suc, ◌+◌, ◌-◌, ◌<◌, ◌≤◌}
use native.Mathlib.Numerals.{add-one}
use native.Mathlib.Omega.{arith}
use lib.ListN.{length, get_or, take, drop, drop_of_length-le, length-append, length-drop}
use lib.Seq.{take-suc, drop-cons, drop_at, take-take, length-take-le}
use lib.Ieee.{Float}
use Rattle.float.specs.Number.{zerof}
use Rattle.float.specs.Signs.{total_less}
use Rattle.lid.specs.Contract.Steps.{insert_at}
use Rattle.lid_hole.specs.Contract.Order.{insert_by, order_step, Ordered}
use Rattle.lists.proofs.Buffers.{over_is}
use Rattle.lid_splice.proofs.SpliceLaws.{front_back}

module _ (rights : List Float) (g : ℕ) (order t : List ℕ) (i : ℕ) (inv : take i order ++ insert_by rights g (drop i order) ≡ t) where
  pub place_here : i < length order → total_less (get_or rights (get_or order i 0) zerof) (get_or rights g zerof) ≡ true → insert_at i g order ≡ t
  unfolding insert_by insert_at
  place_here h e = rw (drop-cons order i 0) (rw (drop-cons order i 0, e) at inv)

  pub place_next : i < length order → total_less (get_or rights (get_or order i 0) zerof) (get_or rights g zerof) ≡ false
      → take (i + 1) order ++ insert_by rights g (drop (i + 1) order) ≡ t
  unfolding insert_by
  place_next h e =
      let p : take i order ++ get_or order i 0 ∷ insert_by rights g (drop (suc i) order) ≡ t = rw (drop-cons order i 0, e) at inv in
      rw (add-one, take-suc order i 0 h) (append_assoc (take i order) (get_or order i 0 ∷ []) (insert_by rights g (drop (suc i) order)) ∙ p)

  pub place_end : length order ≤ i → insert_at i g order ≡ t
  unfolding insert_by insert_at
  place_end h = rw (drop_of_length-le order h) (rw (drop_of_length-le order h) at inv)

insert_long : (i v : ℕ) (l : List ℕ) → i ≤ length l → length (insert_at i v l) ≡ length l + 1
unfolding insert_at
insert_long i v l h = length-append (take i l) (v ∷ drop i l) ∙ omega (arith, length-take-le i l h, length-drop i l)

module _ (rights : List Float) (small : List Bool) (g : ℕ) (buffer : List ℕ) (c : ℕ) (room : c < length buffer) where
  pub order_skip : get_or small g false ≡ true → Ordered (order_step rights small g (take c buffer)) buffer buffer c
  order_skip e =
      let size : c ≡ length (take c buffer) = sym (length-take-le c buffer (omega arith)) in
      record { stands = rw e (over_is c buffer buffer (take c buffer) size refl refl); holes = rw e size }

  pub order_put : (p : ℕ) (x : List ℕ) → get_or small g false ≡ false → p ≤ length (take c buffer) → insert_at p g (take c buffer) ≡ insert_by rights g (take c buffer)
      → length x ≡ length (take (c + 1) buffer) → x ≡ insert_at p g (take (length (take (c + 1) buffer) - 1) (take (c + 1) buffer))
      → Ordered (order_step rights small g (take c buffer)) buffer (x ++ drop (c + 1) buffer) (c + 1)
  order_put p x e low place same put =
      let long : length (take (c + 1) buffer) ≡ c + 1 = length-take-le (c + 1) buffer (omega arith) in
      let short : length (take (c + 1) buffer) - 1 ≡ c = omega arith in
      let is : x ≡ insert_at p g (take c buffer) = put ∙ ap (insert_at p g) (ap (λ (n : ℕ). take n (take (c + 1) buffer)) short ∙ take-take c (c + 1) buffer (omega arith)) in
      let size : c + 1 ≡ length (insert_by rights g (take c buffer)) = sym long ∙ sym same ∙ ap length (is ∙ place) in
      let front : take (c + 1) (x ++ drop (c + 1) buffer) ≡ insert_by rights g (take c buffer) = front_back buffer x (c + 1) (c + 1) refl (omega arith) same ∙ is ∙ place in
      record {
        stands = rw e (over_is (c + 1) (x ++ drop (c + 1) buffer) buffer (insert_by rights g (take c buffer)) size front (drop_at x (drop (c + 1) buffer) (c + 1) (same ∙ long)));
        holes = rw e size;
      }
