-- Rings of sixteen points: filled one at a time, and the faces between them. Assumes nothing.
use mathlib.Core.Path.{◌≡◌, refl, sym, ap, ap₂, subst, ◌∙◌}
use mathlib.Core.List.{List, [], ◌∷◌, map, map-map}
use Prim.Native.Nat.{ℕ, zero, suc, ◌+◌, ◌-◌, ◌*◌, ◌<◌}
use native.Mathlib.Nat.{not-suc-le-zero}
use native.Mathlib.Omega.{arith}
use lib.ListN.{length, get_or, length-map}
use lib.Dec.{lit<}
use Rattle.lists.specs.Loops.{list, sum_of, next}
use Rattle.lists.proofs.Lists.{length_list, get_d_list, get_d_any, sum_list}
use Rattle.lists.proofs.Places.{next_in}
use Rattle.coords.specs.declared.Point.{Point}
use Rattle.coords_vector.specs.declared.Vector.{Vector}
use Rattle.coords_vector.specs.Vectors.{plus}
use Rattle.coords.specs.Coords.{origin, diff}
use Rattle.object.specs.declared.Section.{Section}
use Rattle.face.specs.Faces.{Face, fan, quad}
use Rattle.face.specs.declared.Canvas.{Canvas}
use Rattle.face.specs.Contract.Drawing.{Draws, DrawsFace}
use Rattle.face.proofs.Counts.{count}
use Rattle.face.proofs.Canvases.{draws_then, draws_part}
use Rattle.scene_field.specs.Fields.{section_at, sections_at}
use Rattle.shape.specs.Shapes.{Ellipse, ellipse, ellipse0, start_out, end_out, end_face, tube_side, tube_faces, tube_caps, pairs}
use Rattle.shape.specs.Contract.Stages.{four_stages, round_stages, DrawsStages}
use Rattle.shape.proofs.Canvases.{drawn_capped}
use Rattle.shape.proofs.Sized.{Sized, sized_list}
use Rattle.shape_section.specs.Contract.Places.{EndPlaces}
use Rattle.shape_section.proofs.Neighbours.{map_list, pair_drawn, ends_are}

-- ---- tubes

pub ring_size : (x : Section) → length (ellipse x).ring ≡ 16
unfolding ellipse
ring_size x = length_list _ 16 0

-- the points of side k, read from both rings with any default
pub side_drew : (a b : Ellipse) (k : ℕ) (p : Point) (out : Vector) {c d : Canvas} → k < 16 → length a.ring ≡ 16 → length b.ring ≡ 16
    → out ≡ plus (plus (plus (diff (get_or a.ring k p) a.centre) (diff (get_or a.ring (next 16 k) p) a.centre)) (diff (get_or b.ring k p) b.centre)) (diff (get_or b.ring (next 16 k) p) b.centre)
    → DrawsFace (λ part. quad part (get_or a.ring k p) (get_or a.ring (next 16 k) p) (get_or b.ring (next 16 k) p) (get_or b.ring k p) out) c d
    → Draws (tube_side a b k ∷ []) c d
unfolding tube_side
side_drew a b k p out h m n e q =
    let j = next_in 16 k (lit< tt) in
    rw (← get_d_any a.ring k p origin (omega arith), ← get_d_any a.ring (next 16 k) p origin (omega arith), ← get_d_any b.ring (next 16 k) p origin (omega arith), ← get_d_any b.ring k p origin (omega arith), ← e) (draws_part 1 q)

pub sides_sized : (a b : Ellipse) (n : ℕ) → Sized (list (tube_side a b) n 0) (4 * n) (2 * n)
unfolding tube_side quad fan list
sides_sized a b n = sized_list (tube_side a b) 4 2 (λ i. refl) (λ i. refl) n

pub tube_points : (a b : Ellipse) → sum_of (λ (f : Face). length f.points) (tube_faces a b) ≡ 64
unfolding tube_faces tube_side quad
tube_points a b = sum_list (λ (f : Face). length f.points) 4 (tube_side a b) (λ k. refl) 16 0

pub tube_triangles : (a b : Ellipse) → sum_of count (tube_faces a b) ≡ 32
unfolding tube_faces tube_side quad fan list
tube_triangles a b = sum_list count 2 (tube_side a b) (λ k. refl) 16 0

module _ (s : List ℕ) (at : ℕ) where
  abbrev section_number : ℕ → Section
  section_number k = section_at s (at + 48 * k)

  -- the ellipses of the sections, one by one
  pub ellipses_are : (n : ℕ) → list (λ k. ellipse (section_number k)) n 0 ≡ map ellipse (sections_at s n at)
  unfolding sections_at
  ellipses_are n = sym (map_list ellipse section_number n 0)

  -- the tube to the next ellipse drawn behind those before it
  pub tube_drawn : (k : ℕ) {a b : Ellipse} {c d e : Canvas} → 0 < k → Draws (pairs tube_faces (map ellipse (sections_at s k at))) c d
      → a ≡ ellipse (section_number (k - 1)) → b ≡ ellipse (section_number k) → Draws (tube_faces a b) d e
      → Draws (pairs tube_faces (map ellipse (sections_at s (k + 1) at))) c e
  tube_drawn k {c = c} {d} {e} h p x y q =
      subst (λ (es : List Ellipse). Draws (pairs tube_faces es) c e) (ellipses_are (k + 1))
      (pair_drawn tube_faces (λ k. ellipse (section_number k)) k h (subst (λ (es : List Ellipse). Draws (pairs tube_faces es) c d) (sym (ellipses_are k)) p) x y q)

  pub round_none : (n : ℕ) → n ≡ 0 → round_stages (sections_at s n at) ≡ four_stages [] [] [] []
  unfolding round_stages pairs tube_caps sections_at list
  round_none zero e = refl
  round_none (suc n) e = absurd (omega arith)

  abbrev centres : ℕ → List Point
  centres n = map (λ (x : Section). (ellipse x).centre) (sections_at s n at)

  tube_caps_at : (n : ℕ) → 0 < n
      → end_face (ellipse (section_at s at)).ring (start_out (centres n)) 4 ∷ end_face (ellipse (section_at s (at + 48 * (n - 1)))).ring (end_out (centres n)) 4 ∷ []
      ≡ tube_caps (map ellipse (sections_at s n at))
  unfolding tube_caps sections_at list
  tube_caps_at zero h = absurd (not-suc-le-zero h)
  tube_caps_at (suc n) h =
      ap₂ (λ (x y : Ellipse). end_face x.ring (start_out (centres (suc n))) 4 ∷ end_face y.ring (end_out (centres (suc n))) 4 ∷ []) (ap (λ (p : ℕ). ellipse (section_at s p)) first) (sym last)
      ∙ ap (λ (ps : List Point). end_face (ellipse (section_number 0)).ring (start_out ps) 4 ∷ end_face (get_or es (length (map ellipse rest)) ellipse0).ring (end_out ps) 4 ∷ [])
      (sym (map-map (λ (e : Ellipse). e.centre) ellipse (sections_at s (suc n) at)))
    where
      rest : List Section
      rest = list section_number n 1

      es : List Ellipse
      es = map ellipse (sections_at s (suc n) at)

      first : at ≡ at + 48 * 0
      first = omega arith

      place : at + 48 * (0 + n) ≡ at + 48 * (suc n - 1)
      place = omega arith

      last : get_or es (length (map ellipse rest)) ellipse0 ≡ ellipse (section_at s (at + 48 * (suc n - 1)))
      last =
          ap (λ (k : ℕ). get_or es k ellipse0) (length-map rest ellipse ∙ length_list section_number n 1)
          ∙ ap (λ (l : List Ellipse). get_or l n ellipse0) (sym (ellipses_are (suc n)))
          ∙ get_d_list (λ k. ellipse (section_number k)) (suc n) 0 n ellipse0 (omega arith)
          ∙ ap (λ (p : ℕ). ellipse (section_at s p)) place

  -- with the places that a program works out
  tube_caps_drawn : (n : ℕ) {second last previous : ℕ} → 0 < n → EndPlaces at n second last previous
      → end_face (ellipse (section_at s at)).ring (diff (ellipse (section_at s at)).centre (ellipse (section_at s second)).centre) 4
      ∷ end_face (ellipse (section_at s last)).ring (diff (ellipse (section_at s last)).centre (ellipse (section_at s previous)).centre) 4 ∷ []
      ≡ tube_caps (map ellipse (sections_at s n at))
  tube_caps_drawn n h p =
      ends_are s at (λ (z : Section). (ellipse z).centre) (λ (z : Section) (u : Vector) (z' : Section) (w : Vector). end_face (ellipse z).ring u 4 ∷ end_face (ellipse z').ring w 4 ∷ []) n h p
      ∙ tube_caps_at n h

  -- the caps drawn behind the tube
  pub round_drawn : (n : ℕ) {second last previous : ℕ} {x y : Ellipse} {q r : Point} {u w : Vector} {a b c d : Canvas} → 0 < n
      → EndPlaces at n second last previous → x ≡ ellipse (section_at s at) → y ≡ ellipse (section_number (n - 1)) → q ≡ (ellipse (section_at s second)).centre
      → r ≡ (ellipse (section_at s previous)).centre → u ≡ diff x.centre q → w ≡ diff y.centre r
      → Draws (pairs tube_faces (map ellipse (sections_at s n at))) a b → DrawsFace (end_face x.ring u) b c → DrawsFace (end_face y.ring w) c d
      → DrawsStages (round_stages (sections_at s n at)) (b.tally ∷ b.tally ∷ b.tally ∷ d.tally ∷ d.tally ∷ d.tally ∷ []) a d
  unfolding round_stages
  round_drawn n {last = last} {y = y} g e f h i j v z sides start end =
      let l : y ≡ ellipse (section_at s last) = h ∙ ap (λ (o : ℕ). ellipse (section_at s o)) (sym e.end) in
      rw (← tube_caps_drawn n g e, ← f, ← l, ← i, ← j, ← v, ← z) (drawn_capped sides (draws_then (draws_part 4 start) (draws_part 4 end)))
