-- The sums over the corners of an outline, by their places in the scene's bytes. Assumes nothing.
use mathlib.Core.Path.{◌≡◌, sym, ap, ◌∙◌}
use Prim.Native.Nat.{ℕ, ◌+◌, ◌-◌, ◌*◌, ◌<◌}
use native.Mathlib.Omega.{arith}
use mathlib.Core.List.{List}
use lib.ListN.{get_or}
use Rattle.lists.specs.Loops.{loop, next}
use Rattle.lists.proofs.Loops.{loop_start}
use Rattle.lists.proofs.Places.{next_in}
use Rattle.coords.specs.declared.Point.{Point}
use Rattle.coords_vector.specs.declared.Vector.{Vector}
use Rattle.coords_vector.specs.Vectors.{zero_v}
use Rattle.coords.specs.Coords.{origin}
use Rattle.object.specs.declared.Corner.{Corner}
use Rattle.scene_field.specs.Fields.{point_at, corner_at}
use Rattle.lid_plane.specs.Plane.{area_normal_step, area_normal}
use Rattle.lid_plane.specs.Contract.Steps.{area_normal_at}
use Rattle.shape_outline_corners.specs.Contract.Outlines.{points_at}
use Rattle.shape_outline_corners.proofs.CornerLaws.{points_length, points_get, points_first}

-- the vector area of n points
module _ (s : List ℕ) (n at : ℕ) where
  pub area_at : {p q : Point} (k : ℕ) (sum : Vector) → k < n → p ≡ point_at s (at + 24 * k) → q ≡ point_at s (at + 24 * next n k)
      → area_normal_at (point_at s at) p q sum ≡ area_normal_step (points_at s n at) k sum
  area_at {p} {q} k sum h e g =
      let ps = points_at s n at in
      let j = next n k in
      let some : 0 < n = omega arith in
      sym (ap (λ (m : ℕ). area_normal_at (get_or ps 0 origin) (get_or ps k origin) (get_or ps (next m k) origin) sum) (points_length s n at)
      ∙ ap (λ (p : Point). area_normal_at p (get_or ps k origin) (get_or ps j origin) sum) (points_first s n at some)
      ∙ ap (λ (p : Point). area_normal_at (point_at s at) p (get_or ps j origin) sum) (points_get s n at k h ∙ sym e)
      ∙ ap (λ (q : Point). area_normal_at (point_at s at) p q sum) (points_get s n at j (next_in n k some) ∙ sym g))

  pub area_start : loop (area_normal_step (points_at s n at)) (n - 0) 0 zero_v ≡ area_normal (points_at s n at)
  unfolding area_normal
  area_start = loop_start _ n zero_v ∙ ap (λ (m : ℕ). loop (area_normal_step (points_at s n at)) m 0 zero_v) (sym (points_length s n at))

-- the vector area of the tops of n corners, by two corners that follow each other
module _ (s : List ℕ) (n at : ℕ) where
  top_place : (k : ℕ) → (corner_at s (at + 24 * k)).top ≡ point_at s (at + 12 + 24 * k)
  unfolding corner_at
  top_place k = ap (point_at s) turned
    where
      turned : at + 24 * k + 12 ≡ at + 12 + 24 * k
      turned = omega arith

  pub tops_at : {a b first : Corner} (k : ℕ) (sum : Vector) → k < n → first ≡ corner_at s at → a ≡ corner_at s (at + 24 * k) → b ≡ corner_at s (at + 24 * next n k)
      → area_normal_at first.top a.top b.top sum ≡ area_normal_step (points_at s n (at + 12)) k sum
  unfolding corner_at
  tops_at {a} {b} k sum h f e g =
      ap (λ (c : Corner). area_normal_at c.top a.top b.top sum) f
      ∙ area_at s n (at + 12) k sum h (ap (λ (c : Corner). c.top) e ∙ top_place k) (ap (λ (c : Corner). c.top) g ∙ top_place (next n k))
