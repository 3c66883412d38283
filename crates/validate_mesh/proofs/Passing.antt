-- Four finite vertices at a time are passed over. Assumes nothing.
use mathlib.Core.Path.{◌≡◌, refl, sym, ap, ◌∙◌, subst}
use Prim.Native.Nat.{ℕ, suc, ◌+◌, ◌<◌, ◌/◌}
use native.Mathlib.Omega.{arith}
use native.Mathlib.Numerals.{unary_clauses}
use mathlib.Core.Bool.{Bool, true, false, not, ◌&&◌}
use mathlib.Core.List.{List}
use lib.ListN.{length}
use lib.Dec.{T}
use lib.Ieee.{Float}
use lib.Ieee.Bits.{is_true}
use Rattle.std.specs.Prelude.{Option}
use Rattle.lists.specs.Loops.{every, list}
use Rattle.lists.proofs.Lists.{every_list}
use Rattle.lists.proofs.Loops.{first_skip}
use Rattle.coords.specs.declared.Point.{Point}
use Rattle.coords.specs.Coords.{finite_point}
use Rattle.coords.specs.Buffers.{vertex_at, vertices_in}
use Rattle.validate.specs.Faults.{not_finite}
use Rattle.validate.specs.Contract.Validate.{not_finite_from}
use Rattle.buffer.proofs.Vertices.{length_vertices, vertex_in}

pub four_tests : {A : Type 0} (p : A → Bool) (f : ℕ → A) (k : ℕ) → (((p (f k) && p (f (k + 1))) && p (f (k + 2))) && p (f (k + 3))) ≡ every p (list f 4 k)
unfolding every list
four_tests p f k = simp unary_clauses (joined (p (f k)) (p (f (suc k))) (p (f (suc (suc k)))) (p (f (suc (suc (suc k))))))
  where
    joined : (a b c d : Bool) → (((a && b) && c) && d) ≡ (a && (b && (c && (d && true))))
    joined true true true true = refl
    joined true true true false = refl
    joined true true false d = refl
    joined true false c d = refl
    joined false b c d = refl

module _ (xs : List Float) where
  pub below_length : {k : ℕ} → k < length xs / 3 → k < length (vertices_in xs)
  below_length {k} h = subst (λ (n : ℕ). k < n) (sym (length_vertices xs)) h

  -- a vertex's test is made on the buffer's numbers
  tested : (k : ℕ) → k < length xs / 3 → not_finite (vertices_in xs) k ≡ not (finite_point (vertex_at xs k))
  tested k h = ap (λ p. not (finite_point p)) (sym (vertex_in xs k h))

  pub test_is : (k : ℕ) {p : Point} {b : Bool} → k < length xs / 3 → p ≡ vertex_at xs k → b ≡ finite_point p → not_finite (vertices_in xs) k ≡ not b
  test_is k h e f = tested k h ∙ ap not (sym (f ∙ ap finite_point e))

  pub four_passed : (k : ℕ) (t : Option ℕ) → k + 3 < length xs / 3 → every finite_point (list (vertex_at xs) 4 k) ≡ true → not_finite_from (vertices_in xs) k ≡ t → not_finite_from (vertices_in xs) (k + 4) ≡ t
  four_passed k t h e = first_skip (not_finite (vertices_in xs)) (length (vertices_in xs)) 4 k t (omega (arith, length_vertices xs)) passes
    where
      passes : (j : ℕ) → j < 4 → not_finite (vertices_in xs) (k + j) ≡ false
      passes j l = tested (k + j) (omega arith) ∙ ap not (is_true (finite_point (vertex_at xs (k + j))) (every_list finite_point (vertex_at xs) 4 k (k + j) (subst T (sym e) tt) (omega arith) (omega arith)))
