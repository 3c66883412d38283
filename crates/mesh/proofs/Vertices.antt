-- Document 01, section 1: all built vertices are finite, and within 6 * 2 ^ 24; so their millimetres are in reach, and below 2 ^ 37. Assumes nothing.
use mathlib.Core.Path.{◌≡◌, refl, sym, subst}
use mathlib.Core.List.{List, [], ◌∷◌, map}
use Prim.Native.Nat.{ℕ}
use lib.Ieee.{Float}
use Rattle.lists.specs.Each.{Each}
use Rattle.lists.specs.Loops.{join}
use Rattle.float.specs.Number.{min_area}
use Rattle.coords.specs.declared.Point.{Point}
use Rattle.coords.specs.Buffers.{vertex_numbers}
use Rattle.object.specs.Object.{Object}
use Rattle.scene.specs.Scene.{accepted, scene}
use Rattle.mesh.specs.Demand3.{LongEnough, prefixes}
use Rattle.mesh.specs.Mesh.{mesh_of}
use Rattle.mesh.specs.PerBuffer.{Buffers}
use Rattle.mesh.specs.Operations.{counts_of, output, measure, build}
use Rattle.float.proofs.Within.{Within}
use Rattle.coords.proofs.Near.{NearP}
use Rattle.object.proofs.Near.{NearShape}
use Rattle.millimetre.specs.Millimetres.{millimetres}
use Rattle.millimetre.specs.Contract.Reach.{InReach}
use Rattle.millimetre.proofs.Bounds.{Small, coordinates_in_reach, coordinates_small}
use Rattle.scene.proofs.Accepted.{accepted_near}
use Rattle.mesh.proofs.Demand3.{prefixes_output}
use Rattle.mesh.proofs.Demand3.Verdict.{mesh_finite}

numbers_within : (ps : List Point) → Each (NearP 6 24) ps → Each (Within 6 24) (vertex_numbers ps)
unfolding vertex_numbers join
numbers_within [] n = tt
numbers_within (p ∷ ps) n = (n.0.x, (n.0.y, (n.0.z, numbers_within ps n.1)))

-- the millimetres are those of the vertices
pub output_millimetres : (limit : Float) (os : List Object) → (output limit os).millimetres ≡ map millimetres (output limit os).vertices
unfolding output
output_millimetres limit os = refl

-- ---- of what is written for objects within bounds, at any limit

abbrev Bounded : List Object → Type 0
Bounded os = Each (λ (o : Object). NearShape o.shape) os

pub output_within : (limit : Float) (os : List Object) → Bounded os → Each (Within 6 24) (output limit os).vertices
unfolding output
output_within limit os near = numbers_within (mesh_of limit os).vertices (mesh_finite limit os near)

pub output_in_reach : (limit : Float) (os : List Object) → Bounded os → Each InReach (output limit os).vertices
output_in_reach limit os near = coordinates_in_reach (output limit os).vertices (output_within limit os near)

pub output_small : (limit : Float) (os : List Object) → Bounded os → Each Small (output limit os).millimetres
unfolding output
output_small limit os near = coordinates_small (vertex_numbers (mesh_of limit os).vertices) (output_within limit os near)

-- ---- of what Build leaves of an accepted scene, in buffers long enough

module _ (bytes : List ℕ) (os : List Object) (b : Buffers) (e : scene bytes ≡ accepted os) (l : LongEnough (counts_of b) (measure bytes).counts) where
  abbrev pub left : Buffers
  left = prefixes (measure bytes).counts (build bytes b).buffers

  of_left : (P : Buffers → Type 0) → P (output min_area os) → P left
  of_left P = subst P (sym (prefixes_output bytes os b e l))

  pub vertices_within : Each (Within 6 24) left.vertices
  vertices_within = of_left (λ m. Each (Within 6 24) m.vertices) (output_within min_area os (accepted_near bytes os e))

  pub vertices_in_reach : Each InReach left.vertices
  vertices_in_reach = of_left (λ m. Each InReach m.vertices) (output_in_reach min_area os (accepted_near bytes os e))

  pub millimetres_small : Each Small left.millimetres
  millimetres_small = of_left (λ m. Each Small m.millimetres) (output_small min_area os (accepted_near bytes os e))
