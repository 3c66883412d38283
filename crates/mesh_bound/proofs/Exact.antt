-- What objects come to, measured, is what is written, at every limit; and both groups of them come to what all do. Assumes nothing.
use mathlib.Core.Path.{◌≡◌, refl, ap₂, ◌∙◌}
use mathlib.Core.Bool.{Bool, true, false, not, cond}
use mathlib.Core.List.{List, [], ◌∷◌}
use Prim.Native.Nat.{ℕ, zero, suc, ◌+◌, ◌*◌}
use native.Mathlib.Nat.{zero-add, add-zero}
use native.Mathlib.Omega.{arith}
use lib.Dec.{eqb}
use lib.ListN.{length, length-append}
use lib.Ieee.{Float}
use borrow.Author.Tests.{ne_eqb}
use Rattle.lists.specs.Loops.{join, sum_of}
use Rattle.object.specs.Object.{Object}
use Rattle.face.specs.Faces.{Triangle, Face, kept_of, nothing, behind, write_kept, write_face, write_faces}
use Rattle.shape.specs.Shapes.{faces_of, log_of}
use Rattle.mesh.specs.Mesh.{kept_by, piece_of, span_of, add_piece, mesh_from, logs_of}
use Rattle.mesh.specs.Operations.{output, counts_of}
use Rattle.mesh.proofs.Demand3.Spans.{piece_size}
use Rattle.mesh.proofs.MeshSizes.{output_counts}
use Rattle.mesh_bound.specs.declared.Most.{Most}
use Rattle.mesh_bound.specs.declared.Group.TheVariants.{All, Lids, Others}
use Rattle.mesh_bound.specs.declared.Counting.{Counting}
use Rattle.mesh_bound.specs.Most.{nothing as none, together, of_all, numbers_of}
use Rattle.mesh_bound.specs.Contract.Groups.{exact_of, has_lid, in_group, counted_by, bound_in, bound_of_all}

pub together_none : (m : Most) → together m none ≡ m
together_none m = λ i. record { vertices = add-zero m.vertices i; triangles = add-zero m.triangles i; spans = add-zero m.spans i; entries = add-zero m.entries i }

pub none_together : (m : Most) → together none m ≡ m
none_together m = λ i. record { vertices = zero-add m.vertices i; triangles = zero-add m.triangles i; spans = zero-add m.spans i; entries = zero-add m.entries i }

exchanged : (a b c d : Most) → together (together a b) (together c d) ≡ together (together a c) (together b d)
exchanged a b c d = λ i. record { vertices = swap a.vertices b.vertices c.vertices d.vertices i; triangles = swap a.triangles b.triangles c.triangles d.triangles i; spans = swap a.spans b.spans c.spans d.spans i; entries = swap a.entries b.entries c.entries d.entries i }
  where
    swap : (a b c d : ℕ) → a + b + (c + d) ≡ a + c + (b + d)
    swap a b c d = omega arith

one_or_none : {A : Type 0} (n t : ℕ) (x : A) → n ≡ 3 * t → length (cond (eqb n 0) [] (x ∷ [])) ≡ cond (eqb t 0) 0 1
one_or_none zero zero x h = refl
one_or_none zero (suc t) x h = omega arith
one_or_none (suc n) zero x h = omega arith
one_or_none (suc n) (suc t) x h = rw (ne_eqb (suc n) 0 (λ z. omega arith), ne_eqb (suc t) 0 (λ z. omega arith)) refl

module _ (limit : Float) where
  -- so many vertices, whatever the first one's number is
  kept_alike : (a b : ℕ) (f : Face) (ts : List Triangle) → length (write_kept limit a f ts).vertices ≡ length (write_kept limit b f ts).vertices
  unfolding write_kept nothing
  kept_alike a b f [] = refl
  kept_alike a b f (t ∷ ts) = refl

  alike : (a b : ℕ) (fs : List Face) → length (write_faces limit a fs).vertices ≡ length (write_faces limit b fs).vertices
  unfolding write_faces write_face behind nothing
  alike a b [] = refl
  alike a b (f ∷ fs) =
      let p = write_kept limit a f (kept_of limit f) in
      let q = write_kept limit b f (kept_of limit f) in
      let a' = a + length p.vertices in
      let b' = b + length q.vertices in
      omega (arith, length-append p.vertices (write_faces limit a' fs).vertices, length-append q.vertices (write_faces limit b' fs).vertices, kept_alike a b f (kept_of limit f), alike a' b' fs)

  -- ---- one object

  span_exact : (v i : ℕ) (o : Object) → length (span_of o.id v i (piece_of limit v o)) ≡ (exact_of limit o.shape).spans
  unfolding span_of exact_of
  span_exact v i o = one_or_none (length (piece_of limit v o).indices) (kept_by limit o.shape) _ (piece_size limit v o)

  -- ---- all objects

  abbrev all : List Object → Most
  all = of_all (exact_of limit)

  kept_exact : (os : List Object) → (all os).triangles ≡ sum_of (λ (o : Object). kept_by limit o.shape) os
  unfolding sum_of of_all exact_of
  kept_exact [] = refl
  kept_exact (o ∷ os) = omega (arith, kept_exact os)

  logs_exact : (os : List Object) → (all os).entries ≡ length (logs_of os)
  unfolding logs_of join of_all exact_of
  logs_exact [] = refl
  logs_exact (o ∷ os) = omega (arith, length-append (log_of o.shape) (logs_of os), logs_exact os)

  mesh_exact : (os : List Object) (v i : ℕ) → ((all os).vertices ≡ length (mesh_from limit v i os).vertices) × ((all os).spans ≡ length (mesh_from limit v i os).spans)
  unfolding mesh_from add_piece of_all piece_of exact_of
  mesh_exact [] v i = (refl, refl)
  mesh_exact (o ∷ os) v i =
      let p = piece_of limit v o in
      let m = mesh_from limit (v + length p.vertices) (i + length p.indices) os in
      let ih = mesh_exact os (v + length p.vertices) (i + length p.indices) in
      let s = span_of o.id v i p in (
        omega (arith, ih.0, length-append p.vertices m.vertices, alike v 0 (faces_of o.shape)),
        omega (arith, ih.1, length-append s m.spans, span_exact v i o),
      )

  pub exact_counts : (os : List Object) → numbers_of (of_all (exact_of limit) os) (length os) ≡ counts_of (output limit os)
  exact_counts os = (λ i. numbers_of (record { vertices = (mesh_exact os 0 0).0 i; triangles = kept_exact os i; spans = (mesh_exact os 0 0).1 i; entries = logs_exact os i }) (length os)) ∙ output_counts limit os

  -- ---- both groups

  one_group : (lid : Bool) (m : Most) → together (cond (not lid) m none) (cond lid m none) ≡ m
  one_group true m = none_together m
  one_group false m = together_none m

  pub both_groups : (counting : Counting) (os : List Object) → together (bound_of_all Others counting limit os) (bound_of_all Lids counting limit os) ≡ bound_of_all All counting limit os
  unfolding bound_of_all of_all bound_in in_group
  both_groups counting [] = refl
  both_groups counting (o ∷ os) =
      let m = counted_by counting limit o.shape in
      exchanged (cond (not (has_lid o.shape)) m none) (bound_of_all Others counting limit os) (cond (has_lid o.shape) m none) (bound_of_all Lids counting limit os)
      ∙ ap₂ together (one_group (has_lid o.shape) m) (both_groups counting os)
