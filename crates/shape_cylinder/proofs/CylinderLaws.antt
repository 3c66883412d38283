-- The parts of a cylinder: their points and triangles, how many more can be counted behind them, a side's points read from its rings, and the whole drawn part by part. Assumes nothing.
use mathlib.Core.Path.{◌≡◌, refl, ap₂, ◌∙◌}
use mathlib.Core.Bool.{true, false}
use mathlib.Core.List.{List, [], ◌∷◌}
use Prim.Native.Nat.{ℕ, ◌*◌, ◌<◌}
use native.Mathlib.Omega.{arith}
use lib.ListN.{length, get_or}
use lib.Dec.{lit≤}
use lib.Ieee.{Float, nan, lt}
use Rattle.lists.specs.Loops.{list, sum_of, next}
use Rattle.lists.proofs.Lists.{get_d_any}
use Rattle.float.specs.Number.{zerof, onef, ◌*f◌}
use Rattle.coords.specs.declared.Point.{Point}
use Rattle.coords_vector.specs.declared.Vector.{Vector}
use Rattle.coords_vector.specs.Vectors.{negate}
use Rattle.coords.specs.Coords.{origin, moved}
use Rattle.angle_circle.specs.Circle.{angle, side_angle, sine, cosine}
use Rattle.angle_circle.proofs.Table.{Tables, cosine_at, sine_at}
use Rattle.object.specs.declared.Orientation.{Orientation}
use Rattle.object.specs.Object.{frame}
use Rattle.face.specs.Faces.{fan, quad}
use Rattle.face.specs.declared.Canvas.{Canvas}
use Rattle.face.specs.Contract.Drawing.{Draws, DrawsFace, CountableOn}
use Rattle.face.proofs.Canvases.{draws_part}
use Rattle.shape.specs.Shapes.{ring_point, cylinder_side, end_face}
use Rattle.shape.specs.Contract.Stages.{cylinder_stages, DrawsStages}
use Rattle.shape.proofs.Canvases.{draws_left, drawn_none, drawn_first, drawn_empty}
use Rattle.shape.proofs.Sized.{Sized, sized_list}

-- a ring point and the direction of a side, by the tables of cosines and sines
module _ {cos sin : List Float} (k : ℕ) (h : k < 16) where
  pub ring_read : Tables angle cos sin → (o : Point) (t : Orientation) (r z : Float) {p : Point} → p ≡ moved o (frame t (r *f get_or cos k nan) (r *f get_or sin k nan) z) → p ≡ ring_point o t r z k
  unfolding ring_point
  ring_read e o t r z q = q ∙ ap₂ (λ (x y : Float). moved o (frame t (r *f x) (r *f y) z)) (cosine_at angle e k h) (sine_at angle e k h)

  pub side_read : Tables side_angle cos sin → (t : Orientation) {v : Vector} → v ≡ frame t (get_or cos k nan) (get_or sin k nan) zerof → v ≡ frame t (cosine (side_angle k)) (sine (side_angle k)) zerof
  side_read e t q = q ∙ ap₂ (λ (x y : Float). frame t x y zerof) (cosine_at side_angle e k h) (sine_at side_angle e k h)

pub sides_sized : (t : Orientation) (bottom top : List Point) (n : ℕ) → Sized (list (cylinder_side t bottom top) n 0) (4 * n) (2 * n)
unfolding cylinder_side quad fan list
sides_sized t bottom top n = sized_list (cylinder_side t bottom top) 4 2 (λ i. refl) (λ i. refl) n

end_sized : (ring : List Point) (out : Vector) (part : ℕ) → length ring ≡ 16 → Sized (end_face ring out part ∷ []) 16 14
unfolding end_face fan list sum_of
end_sized ring out part h = record { points = omega arith; triangles = omega arith }

-- the points of side k, read from both rings with any default
pub side_drew : (t : Orientation) (bottom top : List Point) (k : ℕ) (p : Point) (out : Vector) {a b : Canvas} → k < 16 → length bottom ≡ 16 → length top ≡ 16
    → out ≡ frame t (cosine (side_angle k)) (sine (side_angle k)) zerof
    → DrawsFace (λ part. quad part (get_or bottom k p) (get_or bottom (next 16 k) p) (get_or top (next 16 k) p) (get_or top k p) out) a b
    → Draws (cylinder_side t bottom top k ∷ []) a b
unfolding cylinder_side
side_drew t bottom top k p out h b a e q =
    rw (← get_d_any bottom k p origin (omega arith), ← get_d_any bottom (next 16 k) p origin (omega arith), ← get_d_any top (next 16 k) p origin (omega arith), ← get_d_any top k p origin (omega arith), ← e) (draws_part 1 q)

-- how many more can be counted behind the sides, and then the top
module _ (t : Orientation) (bottom top : List Point) {a b : Canvas} (countable : CountableOn a 96 60) (sides : Draws (list (cylinder_side t bottom top) 16 0) a b) where
  pub top_countable : CountableOn b 32 28
  top_countable = draws_left countable sides (sides_sized t bottom top 16) (lit≤ tt) (lit≤ tt)

  pub floor_countable : (ring : List Point) (out : Vector) {c : Canvas} → length ring ≡ 16 → DrawsFace (end_face ring out) b c → CountableOn c 16 14
  floor_countable ring out h q = draws_left top_countable (draws_part 2 q) (end_sized ring out 2 h) (lit≤ tt) (lit≤ tt)

-- a cylinder drawn part by part: the sides, the top, and the floor of one that has a height
module _ (t : Orientation) (h : Float) (bottom top : List Point) {up : Vector} {a b c : Canvas} (upward : up ≡ frame t zerof zerof onef)
    (sides : Draws (list (cylinder_side t bottom top) 16 0) a b) (lid : DrawsFace (end_face top up) b c) where
  pub flat_cylinder : lt zerof h ≡ false → DrawsStages (cylinder_stages t bottom top h) (b.tally ∷ c.tally ∷ c.tally ∷ c.tally ∷ c.tally ∷ c.tally ∷ []) a c
  unfolding cylinder_stages
  flat_cylinder e = rw (e, ← upward) (drawn_first 1 sides (drawn_first 2 (draws_part 2 lid) (drawn_empty 3 (drawn_empty 4 (drawn_empty 5 (drawn_empty 6 drawn_none))))))

  pub whole_cylinder : {down : Vector} {d : Canvas} → lt zerof h ≡ true → down ≡ negate up → DrawsFace (end_face bottom down) c d
      → DrawsStages (cylinder_stages t bottom top h) (b.tally ∷ c.tally ∷ d.tally ∷ d.tally ∷ d.tally ∷ d.tally ∷ []) a d
  unfolding cylinder_stages
  whole_cylinder e turned floor =
      rw (e, ← upward, ← turned)
      (drawn_first 1 sides (drawn_first 2 (draws_part 2 lid) (drawn_first 3 (draws_part 3 floor) (drawn_empty 4 (drawn_empty 5 (drawn_empty 6 drawn_none))))))
