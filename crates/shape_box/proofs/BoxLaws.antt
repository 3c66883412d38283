-- The faces of a box: their points and triangles, how many more can be counted behind them, and the whole drawn face by face. Assumes nothing.
use mathlib.Core.Path.{◌≡◌, refl, sym, ap, ◌∙◌, subst, subst₂}
use mathlib.Core.Bool.{true, false}
use mathlib.Core.List.{List, [], ◌∷◌, ◌++◌, append-nil}
use Prim.Native.Nat.{ℕ, zero, suc, ◌+◌, ◌-◌, ◌*◌, ◌≤◌, ◌<◌, zero-le}
use native.Mathlib.Nat.{zero-add}
use native.Mathlib.Numerals.{add-one}
use native.Mathlib.Omega.{arith}
use lib.ListN.{length, get_or, set, drop, length-append, drop_of_length-le}
use lib.Seq.{sets, sets-eq}
use lib.Ieee.{Float, eq}
use Rattle.lists.specs.Loops.{list, join, sum_of}
use Rattle.float.specs.Number.{zerof, onef}
use Rattle.coords.specs.declared.Point.{Point}
use Rattle.coords_vector.specs.declared.Vector.{Vector}
use Rattle.coords_vector.specs.Vectors.{negate}
use Rattle.object.specs.declared.Orientation.{Orientation}
use Rattle.object.specs.Object.{frame}
use Rattle.face.specs.Faces.{fan, quad}
use Rattle.face.specs.declared.Canvas.{Canvas}
use Rattle.face.specs.Contract.Drawing.{DrawsFace, CountableOn}
use Rattle.face.proofs.Canvases.{draws_part}
use Rattle.face.proofs.Draws.{countable_less}
use Rattle.lists.proofs.Stores.{sets_append}
use Rattle.face.specs.declared.Tally.{Tally}
use Rattle.shape.specs.Shapes.{Axis, on_axis, box_face}
use Rattle.shape.specs.Contract.Stages.{PartRun, side_stages, box_stages, DrawsStages, DrawsTwo}
use Rattle.shape_box.specs.declared.Placed.{Placed}
use Rattle.shape_box.specs.declared.Axis.{Axis as ProgramAxis}
use Rattle.shape_box.specs.declared.Axis.TheVariants.{X, Y, Z}
use Rattle.shape_box.specs.Contract.Axes.{axis_of, depth_along, part_along, sides_of}
use Rattle.shape.proofs.Sized.{Sized, sized_append, sized_cond, countable_left}
use Rattle.shape.proofs.Canvases.{drawn_none, drawn_first, drawn_empty, drawn_then}

none_sized : (v k : ℕ) → Sized [] v k
unfolding sum_of
none_sized v k = record { points = zero-le; triangles = zero-le }

pub quad_sized : (part : ℕ) (p q r s : Point) (out : Vector) → Sized (quad part p q r s out ∷ []) 4 2
unfolding quad fan list sum_of
quad_sized part p q r s out = record { points = omega arith; triangles = omega arith }

module _ (o : Point) (t : Orientation) (l w h : Float) (axis : Axis) where
  pub box_face_sized : (side : Float) (out : Vector) (part : ℕ) → Sized (box_face o t l w h axis side out part ∷ []) 4 2
  unfolding box_face
  box_face_sized side out part = quad_sized part _ _ _ _ out

  pub box_sides_sized : (depth : Float) (part : ℕ) → Sized (join PartRun.faces (side_stages o t l w h axis depth part)) 8 4
  unfolding side_stages join
  box_sides_sized depth part =
      let out = on_axis axis onef zerof zerof (frame t) in
      rw append-nil (sized_append (box_face_sized onef out part) (sized_cond (eq depth zerof) (none_sized 4 2) (box_face_sized zerof (negate out) (part + 1))))

  -- one face drawn, or both
  module _ (depth : Float) (part : ℕ) {out : Vector} {a b : Canvas} (along : out ≡ on_axis axis onef zerof zerof (frame t)) (first : DrawsFace (box_face o t l w h axis onef out) a b) where
    pub one_side : eq depth zerof ≡ true → DrawsTwo (side_stages o t l w h axis depth part) b.tally a b
    unfolding side_stages
    one_side e = rw (e, ← along) (drawn_first part (draws_part part first) (drawn_empty (part + 1) drawn_none))

    pub both_sides : {against : Vector} {c : Canvas} → eq depth zerof ≡ false → against ≡ negate out → DrawsFace (box_face o t l w h axis zerof against) b c → DrawsTwo (side_stages o t l w h axis depth part) b.tally a c
    unfolding side_stages
    both_sides e turned second = rw (e, ← along, ← turned) (drawn_first part (draws_part part first) (drawn_first (part + 1) (draws_part (part + 1) second) drawn_none))

-- the axes by number, and the faces across the first k of them
unfoldable pub axis_no : ℕ → ProgramAxis
axis_no zero = X
axis_no (suc zero) = Y
axis_no (suc (suc k)) = Z

pub axis_read : (k : ℕ) (d : ProgramAxis) → k < 3 → get_or (X ∷ Y ∷ Z ∷ []) k d ≡ axis_no k
unfolding axis_no
axis_read zero d h = refl
axis_read (suc zero) d h = refl
axis_read (suc (suc zero)) d h = refl
axis_read (suc (suc (suc k))) d h = absurd (omega arith)

unfoldable pub box_to : Placed → ℕ → List PartRun
box_to b zero = []
box_to b (suc k) = box_to b k ++ sides_of b (axis_no k)

-- two counts stored behind others
two_behind : (l w : List Tally) (x y : Tally) (i : ℕ) → i ≡ length w → set (set (sets l 0 w) i x) (i + 1) y ≡ sets l 0 (w ++ (x ∷ y ∷ []))
two_behind l w x y i e =
    rw (e, add-one (length w))
    (subst (λ (j : ℕ). set (set (sets l 0 w) j x) (suc j) y ≡ sets l 0 (w ++ (x ∷ y ∷ []))) (zero-add (length w)) (sets_append l 0 w (x ∷ y ∷ [])))

-- the faces across the first k axes are drawn, and the counts after each of them stored from the start of an array on
pub record Drawn (b : Placed) (c c' : Canvas) (old after : List Tally) (k : ℕ) : Type 0 where
  pub tallies : List Tally
  pub size : length tallies ≡ 2 * k
  pub stored : after ≡ sets old 0 tallies
  pub draws : DrawsStages (box_to b k) tallies c c'
  pub countable : CountableOn c' (8 * (3 - k)) (4 * (3 - k))

pub drawn_start : (b : Placed) (c : Canvas) (old : List Tally) → CountableOn c 24 12 → Drawn b c c old old 0
unfolding box_to
drawn_start b c old r = record { tallies = []; size = refl; stored = refl; draws = drawn_none; countable = r }

module _ {b : Placed} {c c' : Canvas} {old after : List Tally} {k : ℕ} (t : Drawn b c c' old after k) where
  pub drawn_countable : k < 3 → CountableOn c' 8 4
  drawn_countable h = countable_less t.countable (omega arith) (omega arith)

  pub drawn_next : {d : Canvas} {x : Tally} (axis : ProgramAxis) → k < 3 → axis ≡ axis_no k → DrawsTwo (sides_of b axis) x c' d → Drawn b c d old (set (set after (2 * k) x) (2 * k + 1) d.tally) (k + 1)
  unfolding box_to
  drawn_next {d} {x} axis h e s = record {
    tallies = t.tallies ++ (x ∷ d.tally ∷ []);
    size = omega (arith, t.size, length-append t.tallies (x ∷ d.tally ∷ []));
    stored = rw t.stored (two_behind old t.tallies x d.tally (2 * k) (sym t.size));
    draws = rw (add-one k, ← e) (drawn_then t.draws s);
    countable = rw s.same.before (countable_left c'.limit t.countable s.drew.drew (box_sides_sized b.origin b.turn b.length b.width b.height (axis_of axis) (depth_along b axis) (part_along axis)) (omega arith) (omega arith));
  }

  -- with all axes drawn the array holds the counts
  pub drawn_all : k ≡ 3 → length old ≡ 6 → DrawsStages (box_stages b.origin b.turn b.length b.width b.height) after c c'
  unfolding box_stages box_to axis_no axis_of depth_along part_along
  drawn_all e h =
      let n : length t.tallies ≡ 6 = t.size ∙ ap (λ (j : ℕ). 2 * j) e in
      let past : length old ≤ 0 + length t.tallies = omega arith in
      let none : drop (0 + length t.tallies) old ≡ [] = drop_of_length-le old past in
      let all : after ≡ t.tallies = t.stored ∙ sets-eq t.tallies old 0 (omega arith) ∙ ap (λ (r : List Tally). t.tallies ++ r) none ∙ append-nil t.tallies in
      subst₂ (λ (j : ℕ) (r : List Tally). DrawsStages (box_to b j) r c c') e (sym all) t.draws
