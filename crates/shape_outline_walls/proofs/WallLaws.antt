-- The walls of an outline, one after the other. Assumes nothing.
use mathlib.Core.Path.{◌≡◌, sym, ap, ap₂, ◌∙◌, subst}
use mathlib.Core.Bool.{Bool, true, false}
use Prim.Native.Nat.{ℕ, ◌+◌, ◌-◌, ◌*◌, ◌<◌, ◌≤◌, ◌^◌}
use native.Mathlib.Omega.{arith}
use mathlib.Core.List.{List, [], ◌∷◌}
use lib.ListN.{length, get_or}
use Rattle.lists.specs.Loops.{next}
use Rattle.lists.proofs.Places.{next_in}
use Rattle.coords_vector.specs.declared.Vector.{Vector}
use Rattle.coords_vector.specs.Vectors.{zero_v, cross}
use Rattle.coords.specs.Coords.{diff}
use Rattle.object.specs.declared.Corner.{Corner}
use Rattle.object.specs.Limits.{most_corners}
use Rattle.scene_field.specs.Fields.{corner_at, corners_at}
use Rattle.scene.proofs.Parts.{corners_get, corners_length}
use Rattle.face.specs.Faces.{Face, quad}
use Rattle.face.specs.declared.Canvas.{Canvas}
use Rattle.face.specs.Contract.Drawing.{tally, Countable, CountableOn, Draws, DrawsFace}
use Rattle.face.proofs.Canvases.{draws_part, draws_next, draws_countable}
use Rattle.lid_plane.specs.Plane.{about}
use Rattle.shape.specs.Shapes.{corner0, wall, walls, outer_walls}
use Rattle.shape.proofs.Sizes.{walls_points}
use Rattle.shape.proofs.Prices.{walls_count}
use Rattle.shape_outline_corners.specs.Contract.Outlines.{wall_between}

-- wall k is drawn where it is drawn between corner k and the next, where they lie
module _ (s : List ℕ) (n at : ℕ) (normal : Vector) (k : ℕ) (h : k < n) where
  wall_at : wall_between (corner_at s (at + 24 * k)) (corner_at s (at + 24 * next n k)) normal ≡ wall (corners_at s n at) normal k
  unfolding wall
  wall_at =
      sym (ap (λ (m : ℕ). wall_between (get_or (corners_at s n at) k corner0) (get_or (corners_at s n at) (next m k) corner0) normal) (corners_length s n at)
      ∙ ap (λ (a : Corner). wall_between a (get_or (corners_at s n at) (next n k) corner0) normal) (corners_get s n at k corner0 h)
      ∙ ap (λ (b : Corner). wall_between (corner_at s (at + 24 * k)) b normal) (corners_get s n at (next n k) corner0 (next_in n k (omega arith))))

  pub wall_drew : {a b : Corner} {edge out : Vector} {c d : Canvas} → a ≡ corner_at s (at + 24 * k) → b ≡ corner_at s (at + 24 * next n k)
      → edge ≡ diff b.base a.base → out ≡ cross edge normal → DrawsFace (λ part. quad part a.base b.base b.top a.top out) c d
      → Draws (wall (corners_at s n at) normal k ∷ []) c d
  wall_drew {a} {b} {c = c} {d} p q e o drew =
      subst (λ (f : Face). Draws (f ∷ []) c d)
      (ap (quad 1 a.base b.base b.top a.top) (o ∙ ap (λ (v : Vector). cross v normal) e) ∙ ap₂ (λ (a b : Corner). wall_between a b normal) p q ∙ wall_at) (draws_part 1 drew)

-- one wall more, behind the first k
pub walls_next : (cs : List Corner) (normal : Vector) (k : ℕ) {a b c : Canvas} → Draws (walls cs normal k) a b → Draws (wall cs normal k ∷ []) b c → Draws (walls cs normal (k + 1)) a c
unfolding walls
walls_next cs normal k p q = draws_next (wall cs normal) k p q

-- how many more can be counted behind walls
pub walls_countable : (cs : List Corner) (normal : Vector) {c d : Canvas} (m n r : ℕ) → CountableOn c (4 * n) (2 * n) → Draws (walls cs normal m) c d → m + r ≤ n → CountableOn d (4 * r) (2 * r)
walls_countable cs normal m n r countable p h = draws_countable countable p (omega (arith, walls_points cs normal m)) (omega (arith, walls_count cs normal m))

-- the walls of r corners more can be counted behind the outer ones of n
pub outer_countable : {c d : Canvas} (s : List ℕ) (n at : ℕ) (closed : Bool) (lid : Vector) (m r : ℕ)
    → CountableOn c (4 * m) (2 * m) → Draws (outer_walls closed (corners_at s n at) lid) c d → n + r ≤ m → CountableOn d (4 * r) (2 * r)
unfolding outer_walls
outer_countable s n at true lid m r countable p h = let cs = corners_at s n at in walls_countable cs (about cs lid) (length cs) m r countable p (omega (arith, corners_length s n at))
outer_countable s n at false lid m r countable p h = let cs = corners_at s n at in walls_countable cs zero_v (length cs - 1) m r countable p (omega (arith, corners_length s n at))

-- with nothing drawn the walls of m corners can be counted
pub start_countable : (before m : ℕ) → 3 * before < 2 ^ 32 → m ≤ most_corners → Countable before (tally 0 0 0) (4 * m) (2 * m)
start_countable before m h g = record { vertices = omega arith; kept = omega arith; thin = omega arith }
