-- What objects come to, at every limit, is at most what their headers tell, and what is counted of both groups of them, whatever is measured. So for
-- every list of bytes `bound` is enough for Build. Assumes nothing.
use mathlib.Core.Path.{◌≡◌, refl, subst}
use mathlib.Core.Bool.{Bool, true, false, cond}
use mathlib.Core.List.{List, [], ◌∷◌}
use Prim.Native.Nat.{ℕ, zero, suc, ◌≤◌, zero-le}
use native.Mathlib.Nat.{le_refl, le_trans}
use native.Mathlib.Omega.{arith}
use lib.Dec.{eqb}
use lib.ListN.{length}
use lib.Ieee.{Float}
use borrow.Author.Tests.{ne_eqb}
use Rattle.lists.specs.Loops.{sum_of}
use Rattle.float.specs.Number.{min_area}
use Rattle.object.specs.declared.Extent.TheVariants.{Box, Cylinder, Unsized}
use Rattle.object.specs.Object.{Shape, solid, outline, sweep, round_sweep, Object}
use Rattle.scene.specs.Scene.{Scene, refused, accepted, scene}
use Rattle.face.proofs.Counts.{faces_account}
use Rattle.face.proofs.Draws.{vertices_most}
use Rattle.shape.specs.Price.{offered, solid_price}
use Rattle.shape.specs.Shapes.{faces_of, solid_faces, log_of}
use Rattle.shape.proofs.Prices.{offered_count}
use Rattle.shape.proofs.Sizes.{points, box_points, cylinder_points, outline_points, outline_most_lem, outline_entries, sum_lengths, sweep_points, sweep_most_lem, round_points, round_most}
use Rattle.mesh.specs.Mesh.{kept_by}
use Rattle.mesh.specs.PerBuffer.{each, Buffers}
use Rattle.mesh.specs.Operations.{Answer, output, counts_of, done, measure_scene, measure, build}
use Rattle.mesh.specs.Demand3.{LongEnough}
use Rattle.mesh.proofs.Rooms.{numbers_within, longer}
use Rattle.mesh.proofs.Measured.{answers_measured}
use Rattle.mesh_bound.specs.declared.Most.{Most}
use Rattle.mesh_bound.specs.declared.Group.{Group}
use Rattle.mesh_bound.specs.declared.Group.TheVariants.{Lids, Others}
use Rattle.mesh_bound.specs.declared.Counting.{Counting}
use Rattle.mesh_bound.specs.declared.Counting.TheVariants.{Exact, Highest}
use Rattle.mesh_bound.specs.Most.{of_shape, solid_most, outline_most, sweep_most, most_of, nothing as none, together, of_all, numbers_of, most_counts, bound_scene, bound}
use Rattle.mesh_bound.specs.Contract.Groups.{exact_of, in_group, counted_by, bound_in, bound_of_all}
use Rattle.mesh_bound.proofs.Exact.{exact_counts, both_groups}

pub record AtMost (a b : Most) : Type 0 where
  pub vertices : a.vertices ≤ b.vertices
  pub triangles : a.triangles ≤ b.triangles
  pub spans : a.spans ≤ b.spans
  pub entries : a.entries ≤ b.entries

same : (m : Most) → AtMost m m
same m = record { vertices = le_refl _; triangles = le_refl _; spans = le_refl _; entries = le_refl _ }

both : {a b c d : Most} → AtMost a b → AtMost c d → AtMost (together a c) (together b d)
both p q =
    record {
      vertices = omega (arith, p.vertices, q.vertices);
      triangles = omega (arith, p.triangles, q.triangles);
      spans = omega (arith, p.spans, q.spans);
      entries = omega (arith, p.entries, q.entries);
    }

one_or_none : (s t : ℕ) → s ≤ t → cond (eqb s 0) 0 1 ≤ cond (eqb t 0) 0 1
one_or_none zero t h = zero-le
one_or_none (suc s) zero h = omega arith
one_or_none (suc s) (suc t) h = rw (ne_eqb (suc s) 0 (λ z. omega arith), ne_eqb (suc t) 0 (λ z. omega arith)) (le_refl 1)

module _ (limit : Float) where
  -- ---- one shape

  by_faces : (sh : Shape) {v t e : ℕ} → sum_of points (faces_of sh) ≤ v → offered sh ≤ t → length (log_of sh) ≤ e → AtMost (exact_of limit sh) (of_shape v t e)
  unfolding exact_of kept_by
  by_faces sh {v} {t} p q r =
      let kept : kept_by limit sh ≤ t = omega (arith, faces_account limit (faces_of sh), offered_count sh) in
      record { vertices = le_trans (vertices_most limit 0 (faces_of sh)) p; triangles = kept; spans = one_or_none _ _ kept; entries = r }

  pub most_within : (sh : Shape) → AtMost (exact_of limit sh) (most_of sh)
  unfolding most_of solid_most outline_most sweep_most faces_of solid_faces log_of offered solid_price sum_of
  most_within (solid o t (Box l w h)) = by_faces _ (box_points o t l w h) (omega arith) zero-le
  most_within (solid o t (Cylinder r h)) = by_faces _ (omega (arith, cylinder_points o t r h)) (le_refl _) zero-le
  most_within (solid o t Unsized) = by_faces _ zero-le zero-le zero-le
  most_within (outline false cs holes) =
      let k = sum_lengths holes in
      by_faces _ (omega (arith, outline_points false cs holes)) (omega (arith, outline_most_lem false cs holes)) zero-le
  most_within (outline true cs holes) =
      let k = sum_lengths holes in
      by_faces _ (omega (arith, outline_points true cs holes)) (omega (arith, outline_most_lem true cs holes)) (omega (arith, outline_entries cs holes))
  most_within (sweep ss) = by_faces _ (sweep_points ss) (sweep_most_lem ss) zero-le
  most_within (round_sweep ss) = by_faces _ (round_points ss) (round_most ss) zero-le

  -- ---- all objects

  all_within : (f g : Shape → Most) → ((sh : Shape) → AtMost (f sh) (g sh)) → (os : List Object) → AtMost (of_all f os) (of_all g os)
  unfolding of_all
  all_within f g h [] = same none
  all_within f g h (o ∷ os) = both (h o.shape) (all_within f g h os)

  pub most_enough : (os : List Object) → AtMost (of_all (exact_of limit) os) (of_all most_of os)
  most_enough os = all_within (exact_of limit) most_of most_within os

  group_within : (group : Group) (counting : Counting) (sh : Shape) → AtMost (bound_in group Exact limit sh) (bound_in group counting limit sh)
  unfolding bound_in counted_by
  group_within group Exact sh = same _
  group_within group Highest sh = by_group (in_group group sh)
    where
      by_group : (b : Bool) → AtMost (cond b (exact_of limit sh) none) (cond b (most_of sh) none)
      by_group true = most_within sh
      by_group false = same none

  pub groups_enough : (others lids : Counting) (os : List Object) → AtMost (of_all (exact_of limit) os) (together (bound_of_all Others others limit os) (bound_of_all Lids lids limit os))
  unfolding bound_of_all bound_in in_group counted_by
  groups_enough others lids os =
      subst (λ (m : Most). AtMost m (together (bound_of_all Others others limit os) (bound_of_all Lids lids limit os))) (both_groups limit Exact os)
      (both (all_within _ _ (group_within Others others) os) (all_within _ _ (group_within Lids lids) os))

  -- with so much room that objects come to no more, there is room for what is written
  pub enough_written : (os : List Object) {m : Most} → AtMost (of_all (exact_of limit) os) m → LongEnough (numbers_of m (length os)) (counts_of (output limit os))
  enough_written os {m} q =
      subst (LongEnough (numbers_of m (length os))) (exact_counts limit os)
      (numbers_within q.vertices q.triangles q.spans (le_refl (length os)) q.entries)

-- ---- for every list of bytes

-- refused alike, and with no smaller counts
abbrev NoLess : Answer → Answer → Type 0
NoLess a b = (a.number ≡ b.number) × (a.object ≡ b.object) × LongEnough a.counts b.counts

scene_enough : (limit : Float) (x : Scene) → NoLess (bound_scene x) (measure_scene limit x)
unfolding bound_scene measure_scene most_counts done
scene_enough limit (refused f object) = (refl, refl, each (λ k. le_refl _))
scene_enough limit (accepted os) = (refl, refl, enough_written limit os (most_enough limit os))

pub bound_enough : (bytes : List ℕ) → NoLess (bound bytes) (measure bytes)
unfolding bound measure
bound_enough bytes = scene_enough min_area (scene bytes)

-- Build into buffers as long as `bound` says, or longer, answers what Measure answers: it is not refused by 8 to 10
pub bound_builds : (bytes : List ℕ) (b : Buffers) → LongEnough (counts_of b) (bound bytes).counts → (build bytes b).answer ≡ measure bytes
bound_builds bytes b l = answers_measured bytes b (longer l (bound_enough bytes).2)
