-- An end whose points are lent as numbers. Assumes nothing.
use mathlib.Core.Path.{◌≡◌, refl}
use mathlib.Core.List.{List, [], ◌∷◌}
use Prim.Native.Nat.{ℕ, ◌/◌}
use native.Mathlib.Omega.{arith}
use lib.ListN.{length}
use lib.Ieee.{Float}
use Rattle.lists.specs.Each.{Each}
use Rattle.lists.specs.Loops.{list}
use Rattle.coords.specs.declared.Point.{Point}
use Rattle.coords_vector.specs.declared.Vector.{Vector}
use Rattle.coords.specs.Buffers.{vertex_numbers, vertices_in}
use Rattle.coords.proofs.Buffers.{vertices_size, vertices_back}
use Rattle.face.specs.declared.Tally.{Tally}
use Rattle.face.specs.Faces.{fan}
use Rattle.face.specs.Contract.Faces.{TriangleLow}
use Rattle.face_triangle.specs.Contract.Triangles.{triangles_in}
use Rattle.face.specs.Contract.Drawing.{Drawing, Drew, Countable, face_in}
use Rattle.face.proofs.Corners.{fan_low}
use Rattle.shape.specs.Shapes.{end_face}

-- the triangles from the first of sixteen points, as numbers
abbrev pub fan_numbers : List ℕ
fan_numbers = 0 ∷ 1 ∷ 2 ∷ 0 ∷ 2 ∷ 3 ∷ 0 ∷ 3 ∷ 4 ∷ 0 ∷ 4 ∷ 5 ∷ 0 ∷ 5 ∷ 6 ∷ 0 ∷ 6 ∷ 7 ∷ 0 ∷ 7 ∷ 8 ∷ 0 ∷ 8 ∷ 9 ∷ 0 ∷ 9 ∷ 10 ∷ 0 ∷ 10 ∷ 11 ∷ 0 ∷ 11 ∷ 12 ∷ 0 ∷ 12 ∷ 13 ∷ 0 ∷ 13 ∷ 14 ∷ 0 ∷ 14 ∷ 15 ∷ []

fan_numbers_lem : triangles_in fan_numbers ≡ fan 16
unfolding triangles_in fan list
fan_numbers_lem = refl

module _ (ring : List Point) (ns : List Float) (e : ns ≡ vertex_numbers ring) where
  pub end_countable : {before : ℕ} {t : Tally} → length ring ≡ 16 → Countable before t 16 14 → Countable before t (length ns / 3) 14
  end_countable {before} {t} h r =
      let n : length ns / 3 ≡ 16 = rw e (omega (arith, vertices_size ring)) in
      rw n r

  pub end_low : length ring ≡ 16 → Each (TriangleLow (length (vertices_in ns))) (triangles_in fan_numbers)
  end_low h = rw (e, vertices_back ring, h, fan_numbers_lem) (fan_low 16 16 (omega arith))

  pub end_drew : (limit : Float) (out : Vector) (part : ℕ) {before : ℕ} {d d' : Drawing} → Drew limit (face_in part ns fan_numbers out ∷ []) before d d' → Drew limit (end_face ring out part ∷ []) before d d'
  unfolding end_face
  end_drew limit out part p = rw (e, vertices_back ring, fan_numbers_lem) at p
