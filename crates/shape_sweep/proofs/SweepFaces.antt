-- How many points and triangles lie between two sections at the most, and the caps of the sections that a scene's bytes hold. Assumes nothing.
use mathlib.Core.Path.{◌≡◌, refl, sym, ap, ap₂, ◌∙◌}
use mathlib.Core.Bool.{Bool, true, false, ◌&&◌, cond}
use mathlib.Core.List.{List, [], ◌∷◌, map}
use Prim.Native.Nat.{ℕ, zero, suc, ◌+◌, ◌-◌, ◌*◌, ◌≤◌, ◌<◌}
use native.Mathlib.Nat.{not-suc-le-zero}
use native.Mathlib.Omega.{arith}
use lib.ListN.{length, get_or}
use lib.Ieee.{neg}
use Rattle.float.specs.Number.{zerof}
use Rattle.lists.specs.Loops.{list, sum_of}
use Rattle.lists.proofs.Lists.{length_list}
use Rattle.coords.specs.declared.Point.{Point}
use Rattle.coords_vector.specs.declared.Vector.{Vector}
use Rattle.coords_vector.specs.Vectors.{vector, unit_z, negate}
use Rattle.coords.specs.Coords.{diff}
use Rattle.object.specs.declared.Section.{Section}
use Rattle.face.specs.Faces.{Face, fan, quad}
use Rattle.face.specs.declared.Canvas.{Canvas}
use Rattle.face.specs.Contract.Drawing.{Draws, DrawsFace, CountableOn}
use Rattle.face.proofs.Counts.{count}
use Rattle.face.proofs.Canvases.{draws_then, draws_part, draws_countable}
use Rattle.scene_field.specs.Fields.{point_at, corner_at, section_at, sections_at}
use Rattle.scene.proofs.Parts.{sections_get}
use Rattle.shape_section.specs.Contract.Places.{EndPlaces}
use Rattle.shape.specs.Shapes.{section0, is_widthless_section, is_flat_section, pair_faces, pairs, start_out, end_out, cap, sweep_caps}
use Rattle.shape.specs.Contract.Stages.{four_stages, sweep_stages, DrawsStages}
use Rattle.shape.proofs.Canvases.{drawn_capped}
use Rattle.shape_section.proofs.Neighbours.{ends_are}

-- the points of a face
abbrev size : Face → ℕ
size f = length f.points

four_most : (h : Face → ℕ) (c : ℕ) (widthless flat : Bool) (l r t f : Face) → h l ≡ c → h r ≡ c → h t ≡ c → h f ≡ c
    → sum_of h (l ∷ cond widthless [] (r ∷ t ∷ cond flat [] (f ∷ []))) ≤ c + (c + (c + c))
unfolding sum_of
four_most h c true flat l r t f p q u v = omega arith
four_most h c false true l r t f p q u v = omega arith
four_most h c false false l r t f p q u v = omega arith

pub pair_points : (a b : Section) → sum_of size (pair_faces a b) ≤ 16
unfolding pair_faces quad fan list
pair_points a b = four_most size 4 (is_widthless_section a && is_widthless_section b) (is_flat_section a && is_flat_section b) _ _ _ _ refl refl refl refl

pub pair_triangles : (a b : Section) → sum_of count (pair_faces a b) ≤ 8
unfolding pair_faces quad fan list
pair_triangles a b = four_most count 2 (is_widthless_section a && is_widthless_section b) (is_flat_section a && is_flat_section b) _ _ _ _ refl refl refl refl

both : {p q x y v : Bool} → x ≡ p → y ≡ q → x && y ≡ v → p && q ≡ v
both e f g = sym (ap₂ ◌&&◌ e f) ∙ g

-- how many more can be counted behind a face of four points
pub quad_countable : (v k : ℕ) (p q r s : Point) (out : Vector) {c d : Canvas} → CountableOn c (v + 4) (k + 2) → DrawsFace (λ part. quad part p q r s out) c d → CountableOn d v k
unfolding quad fan list sum_of
quad_countable v k p q r s out h drew = draws_countable h (draws_part 1 drew) (omega arith) (omega arith)

-- the faces between two sections drawn one by one: widthless ones have the left wall only, flat ones no floor
module _ (a b : Section) {out : Vector} {widthlessA widthlessB : Bool} (side : out ≡ vector (neg (diff b.left.base a.left.base).y) (diff b.left.base a.left.base).x zerof)
    (is_a : widthlessA ≡ is_widthless_section a) (is_b : widthlessB ≡ is_widthless_section b) {c c₁ : Canvas} (left : DrawsFace (λ part. quad part a.left.base b.left.base b.left.top a.left.top out) c c₁) where
  pub widthless_pair : widthlessA && widthlessB ≡ true → Draws (pair_faces a b) c c₁
  unfolding pair_faces
  widthless_pair t = rw (both is_a is_b t, ← side) (draws_part 1 left)

  module _ (t : widthlessA && widthlessB ≡ false) {back : Vector} {flatA flatB : Bool} (behind : back ≡ negate out) (onA : flatA ≡ is_flat_section a) (onB : flatB ≡ is_flat_section b) {c₂ c₃ : Canvas}
      (right : DrawsFace (λ part. quad part a.right.base b.right.base b.right.top a.right.top back) c₁ c₂)
      (top : DrawsFace (λ part. quad part a.left.top b.left.top b.right.top a.right.top unit_z) c₂ c₃) where
    pub flat_pair : flatA && flatB ≡ true → Draws (pair_faces a b) c c₃
    unfolding pair_faces
    flat_pair f = rw (both is_a is_b t, both onA onB f, ← side, ← behind) (draws_then (draws_part 1 left) (draws_then (draws_part 1 right) (draws_part 1 top)))

    pub whole_pair : {down : Vector} {c₄ : Canvas} → flatA && flatB ≡ false → down ≡ negate unit_z
        → DrawsFace (λ part. quad part a.left.base b.left.base b.right.base a.right.base down) c₃ c₄ → Draws (pair_faces a b) c c₄
    unfolding pair_faces
    whole_pair f below floor =
        rw (both is_a is_b t, both onA onB f, ← side, ← behind, ← below)
        (draws_then (draws_part 1 left) (draws_then (draws_part 1 right) (draws_then (draws_part 1 top) (draws_part 1 floor))))

module _ (s : List ℕ) (at : ℕ) where
  pub sweep_none : (n : ℕ) → n ≡ 0 → sweep_stages (sections_at s n at) ≡ four_stages [] [] [] []
  unfolding sweep_stages pairs sweep_caps sections_at list
  sweep_none zero e = refl
  sweep_none (suc n) e = absurd (omega arith)

  -- the sections' left bases
  abbrev bases : ℕ → List Point
  bases n = map (λ (x : Section). x.left.base) (sections_at s n at)

  caps_at : (n : ℕ) → 0 < n → cap (section_at s at) (start_out (bases n)) ∷ cap (section_at s (at + 48 * (n - 1))) (end_out (bases n)) ∷ [] ≡ sweep_caps (sections_at s n at)
  unfolding sweep_caps sections_at list
  caps_at zero h = absurd (not-suc-le-zero h)
  caps_at (suc n) h =
      ap₂ (λ (x y : Section). cap x (start_out (bases (suc n))) ∷ cap y (end_out (bases (suc n))) ∷ []) (ap (λ (p : ℕ). section_at s p) first) (sym last)
    where
      first : at ≡ at + 48 * 0
      first = omega arith

      place : at + 48 * n ≡ at + 48 * (suc n - 1)
      place = omega arith

      last : get_or (sections_at s (suc n) at) (length (list (λ k. section_at s (at + 48 * k)) n 1)) section0 ≡ section_at s (at + 48 * (suc n - 1))
      last =
          ap (λ (k : ℕ). get_or (sections_at s (suc n) at) k section0) (length_list (λ k. section_at s (at + 48 * k)) n 1)
          ∙ sections_get s (suc n) at n section0 (omega arith)
          ∙ ap (λ (p : ℕ). section_at s p) place

  -- with the places that a program works out
  caps_drawn : (n : ℕ) {second last previous : ℕ} → 0 < n → EndPlaces at n second last previous
      → cap (section_at s at) (diff (section_at s at).left.base (point_at s second)) ∷ cap (section_at s last) (diff (section_at s last).left.base (point_at s previous)) ∷ []
      ≡ sweep_caps (sections_at s n at)
  unfolding section_at corner_at
  caps_drawn n h p = ends_are s at (λ (x : Section). x.left.base) (λ (x : Section) (u : Vector) (y : Section) (w : Vector). cap x u ∷ cap y w ∷ []) n h p ∙ caps_at n h

  -- the caps drawn behind the faces between the sections
  pub sweep_drawn : (n : ℕ) {second last previous : ℕ} {x y : Section} {p q : Point} {u w : Vector} {a b c d : Canvas} → 0 < n
      → EndPlaces at n second last previous → x ≡ section_at s at → y ≡ section_at s (at + 48 * (n - 1)) → p ≡ point_at s second → q ≡ point_at s previous
      → u ≡ diff x.left.base p → w ≡ diff y.left.base q → Draws (pairs pair_faces (sections_at s n at)) a b → Draws (cap x u ∷ []) b c → Draws (cap y w ∷ []) c d
      → DrawsStages (sweep_stages (sections_at s n at)) (b.tally ∷ b.tally ∷ b.tally ∷ d.tally ∷ d.tally ∷ d.tally ∷ []) a d
  unfolding sweep_stages
  sweep_drawn n {last = last} {y = y} g e f h i j v z sides start end =
      let l : y ≡ section_at s last = h ∙ ap (section_at s) (sym e.end) in
      rw (← caps_drawn n g e, ← f, ← l, ← i, ← j, ← v, ← z) (drawn_capped sides (draws_then start end))
