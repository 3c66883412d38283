-- Demand 3's verdict: Ok if a triangle was kept, and Empty otherwise, of every list of objects whose numbers are within a scene's bounds and at any limit above zero.
-- And the bounds of the vertices that are built. Assumes nothing.
use mathlib.Core.Path.{◌≡◌, refl, ◌∙◌, subst, ap}
use Prim.Native.Nat.{ℕ, ◌+◌, ◌*◌, ◌%◌}
use native.Mathlib.Omega.{arith}
use mathlib.Core.Bool.{Bool, true, false, cond}
use mathlib.Core.List.{List, [], ◌∷◌, ◌++◌}
use lib.ListN.{length-append, length as size}
use lib.Dec.{T, eqb, eqb→eq}
use lib.Ieee.{Float}
use lib.Ieee.Fits.{eq→eqb}
use native.Mathlib.Nat.{mul-mod_right}
use Rattle.lists.specs.Each.{Each}
use Rattle.lists.specs.Loops.{sum_of}
use Rattle.coords.specs.declared.Point.{Point}
use Rattle.coords.specs.Buffers.{vertex_numbers, vertices_in}
use Rattle.object.specs.Object.{Object}
use Rattle.face.specs.Faces.{write_faces}
use Rattle.shape.specs.Shapes.{faces_of}
use Rattle.refusal.specs.declared.Refusal.TheVariants.{PartialVertex}
use Rattle.std.specs.Prelude.{Ok, Err}
use Rattle.validate.specs.declared.MeshError.TheVariants.{Empty}
use Rattle.validate.specs.Verdict.{Verdict, Validation}
use Rattle.validate.specs.Validate.{verdict, validate_at}
use Rattle.mesh.specs.Mesh.{kept_by, piece_of, add_piece, mesh_from, mesh_of}
use Rattle.mesh.specs.Operations.{output}
use Rattle.coords.proofs.Near.{NearP}
use Rattle.coords.proofs.Turned.{Above}
use Rattle.coords.proofs.Buffers.{vertices_size, vertices_back}
use Rattle.object.proofs.Near.{NearShape}
use Rattle.face.proofs.Good.{Written, together, write_faces_lem}
use Rattle.shape.proofs.Corners.{faces_low}
use Rattle.shape.proofs.Sound.{faces_sound}
use Rattle.validate.proofs.Verdicts.{verdict_good}

-- the verdict on the mesh of a list of objects
abbrev pub VerdictHolds : Float → List Object → Type 0
VerdictHolds limit os =
    validate_at limit (output limit os).vertices (output limit os).indices ≡ Ok (cond (eqb (sum_of (λ (o : Object). kept_by limit o.shape) os) 0) (Err Empty) (Ok tt))

module _ (limit : Float) where
  -- ---- the mesh of a list of objects
  mesh_written : (before : List Point) (i : ℕ) (os : List Object) → Each (λ (o : Object). NearShape o.shape) os
      → Written limit before (mesh_from limit (size before) i os).vertices (mesh_from limit (size before) i os).indices (sum_of (λ (o : Object). kept_by limit o.shape) os)
  unfolding mesh_from add_piece piece_of kept_by sum_of
  mesh_written before i [] n = record { near = tt; good = tt; count = refl }
  mesh_written before i (o ∷ os) n =
      let p = write_faces limit (size before) (faces_of o.shape) in
      let j = i + size p.indices in
      together limit before p.vertices _ p.indices _ _ _ (write_faces_lem limit before (faces_of o.shape) (faces_sound o.shape n.0) (faces_low o.shape))
      (subst (λ (k : ℕ). Written limit (before ++ p.vertices) (mesh_from limit k j os).vertices (mesh_from limit k j os).indices (sum_of (λ (o : Object). kept_by limit o.shape) os)) (length-append before p.vertices)
      (mesh_written (before ++ p.vertices) j os n.1))

  pub mesh_finite : (os : List Object) → Each (λ (o : Object). NearShape o.shape) os → Each (NearP 6 24) (mesh_of limit os).vertices
  unfolding mesh_of
  mesh_finite os n = (mesh_written [] 0 os n).near

module _ (limit : Float) (above : Above limit) where
  none_of_three : (k n : ℕ) (x y : Verdict) → k ≡ 3 * n → cond (eqb k 0) x y ≡ cond (eqb n 0) x y
  none_of_three k n x y e = same (eqb k 0) (eqb n 0) (λ t. eq→eqb (down k n e (eqb→eq k 0 t))) (λ t. eq→eqb (up k n e (eqb→eq n 0 t)))
    where
      same : (a b : Bool) → (T a → T b) → (T b → T a) → cond a x y ≡ cond b x y
      same true true f g = refl
      same true false f g = absurd (f tt)
      same false true f g = absurd (g tt)
      same false false f g = refl

      down : (k n : ℕ) → k ≡ 3 * n → k ≡ 0 → n ≡ 0
      down k n e z = omega arith

      up : (k n : ℕ) → k ≡ 3 * n → n ≡ 0 → k ≡ 0
      up k n e z = omega arith

  pub verdict_mesh : (os : List Object) → Each (λ (o : Object). NearShape o.shape) os
      → verdict limit (mesh_of limit os).vertices (mesh_of limit os).indices ≡ cond (eqb (sum_of (λ (o : Object). kept_by limit o.shape) os) 0) (Err Empty) (Ok tt)
  unfolding mesh_of
  verdict_mesh os n =
      let w = mesh_written limit [] 0 os n in
      let m = mesh_from limit 0 0 os in
      verdict_good limit above m.vertices w.near m.indices w.good ∙ none_of_three (size m.indices) _ (Err Empty) (Ok tt) w.count

-- ---- validate on a mesh's numbers is the verdict on the mesh
abbrev judged : Verdict → Validation
judged v = Ok v

pub validate_is : (limit : Float) (ps : List Point) (is : List ℕ) → validate_at limit (vertex_numbers ps) is ≡ Ok (verdict limit ps is)
unfolding validate_at
validate_is limit ps is =
    ap (λ (n : ℕ). cond (eqb n 0) (Ok (verdict limit (vertices_in (vertex_numbers ps)) is)) (Err PartialVertex)) (ap (λ (n : ℕ). n % 3) (vertices_size ps) ∙ mul-mod_right 3 (size ps))
    ∙ ap (λ (l : List Point). judged (verdict limit l is)) (vertices_back ps)

-- at any limit above zero, of objects whose numbers are within bounds
pub verdict_holds : (limit : Float) → Above limit → (os : List Object) → Each (λ (o : Object). NearShape o.shape) os → VerdictHolds limit os
unfolding output
verdict_holds limit above os n = validate_is limit (mesh_of limit os).vertices (mesh_of limit os).indices ∙ ap judged (verdict_mesh limit above os n)
