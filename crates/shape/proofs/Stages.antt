-- The stages of a shape are its faces, each face of its stage's part; and stages drawn one behind the other. Assumes nothing.
use mathlib.Core.Path.{◌≡◌, refl, sym, ◌∙◌, ap, ap₂}
use mathlib.Core.Bool.{Bool, true, false, ◌&&◌}
use mathlib.Core.List.{List, [], ◌∷◌, ◌++◌, map, append_assoc}
use Prim.Native.Nat.{ℕ, suc, ◌+◌, ◌-◌}
use native.Mathlib.Omega.{arith}
use lib.ListN.{length, get_or}
use lib.Ieee.{Float, lt, eq}
use Rattle.lists.specs.Each.{Each}
use Rattle.lists.specs.Loops.{join}
use Rattle.lists.proofs.Lists.{each_append, each_list, each_join, each_any}
use Rattle.lists.proofs.Loops.{either}
use Rattle.float.specs.Number.{zerof}
use Rattle.coords.specs.declared.Point.{Point}
use Rattle.coords_vector.specs.declared.Vector.{Vector}
use Rattle.coords_vector.specs.Vectors.{zero_v, negate}
use Rattle.object.specs.declared.Corner.{Corner}
use Rattle.object.specs.declared.Section.{Section}
use Rattle.object.specs.declared.Extent.{Extent}
use Rattle.object.specs.declared.Extent.TheVariants.{Box, Cylinder, Unsized}
use Rattle.object.specs.declared.Orientation.{Orientation}
use Rattle.object.specs.Object.{Shape, solid, outline, sweep, round_sweep}
use Rattle.face.specs.declared.Tally.{Tally}
use Rattle.face.specs.Faces.{Face, quad}
use Rattle.face.specs.Contract.Drawing.{tally, Drawing, drawing, counted, drawn, Drew}
use Rattle.face.proofs.Draws.{then, drew_none, drew_tally}
use Rattle.lid_plane.specs.Plane.{about, lid_normal}
use Rattle.shape.specs.Shapes.{Axis, box_face, box_sides, box, along_x, along_y, along_z, cylinder_side, end_face, cylinder_faces, cylinder, ring_at, solid_faces, wall, walls, outer_walls, hole_walls, all_corners, has_height, lid_faces, outline_faces, is_widthless_section, is_flat_section, pair_faces, pairs, cap, sweep_caps, sweep_faces, Ellipse, ellipse, tube_side, tube_faces, tube_caps, round_sweep_faces, faces_of}
use Rattle.shape.specs.Contract.Stages.{PartRun, tallies_of, DrewStages, last_of, stage, side_stages, box_stages, cylinder_stages, solid_stages, lid_face, floor_faces, outline_stages, sweep_stages, round_stages, stages_of}

-- ---- the faces

append-nil : {A : Type 0} (xs : List A) → xs ++ [] ≡ xs
append-nil [] = refl
append-nil (x ∷ xs) = ap (λ (l : List _). x ∷ l) (append-nil xs)

box_faces : (o : Point) (t : Orientation) (l w h : Float) → join PartRun.faces (box_stages o t l w h) ≡ box o t l w h
unfolding box_stages side_stages box box_sides join
box_faces o t l w h = simp (append_assoc, append-nil)

cylinder_faces_lem : (t : Orientation) (bottom top : List Point) (h : Float) → join PartRun.faces (cylinder_stages t bottom top h) ≡ cylinder_faces t bottom top h
unfolding cylinder_stages cylinder_faces join
cylinder_faces_lem t bottom top h = simp append-nil

solid_faces_lem : (o : Point) (t : Orientation) (x : Extent) → join PartRun.faces (solid_stages o t x) ≡ solid_faces o t x
unfolding solid_stages solid_faces cylinder join
solid_faces_lem o t (Box l w h) = box_faces o t l w h
solid_faces_lem o t (Cylinder r h) = cylinder_faces_lem t (ring_at o t r zerof) (ring_at o t r h) h
solid_faces_lem o t Unsized = refl

outline_faces_lem : (closed : Bool) (cs : List Corner) (holes : List (List Corner)) → join PartRun.faces (outline_stages closed cs holes) ≡ outline_faces closed cs holes
unfolding outline_stages outline_faces lid_faces lid_face floor_faces join
outline_faces_lem true cs holes = simp append-nil
outline_faces_lem false cs holes = simp append-nil

pub stages_faces : (s : Shape) → join PartRun.faces (stages_of s) ≡ faces_of s
unfolding stages_of sweep_stages round_stages faces_of sweep_faces round_sweep_faces join
stages_faces (solid o t x) = solid_faces_lem o t x
stages_faces (outline closed cs holes) = outline_faces_lem closed cs holes
stages_faces (sweep ss) = simp append-nil
stages_faces (round_sweep ss) = simp append-nil

-- ---- the parts

abbrev Of : ℕ → Face → Type 0
Of part f = f.part ≡ part

abbrev pub StageHolds : PartRun → Type 0
StageHolds r = Each (λ (f : Face). f.part ≡ r.part) r.faces

sides_parts : (o : Point) (t : Orientation) (l w h : Float) (axis : Axis) (depth : Float) (part : ℕ) → Each StageHolds (side_stages o t l w h axis depth part)
unfolding side_stages box_face quad
sides_parts o t l w h axis depth part = ((refl, tt), (either (Each (Of (part + 1))) (eq depth zerof) {x = []} tt (refl, tt), tt))

box_parts : (o : Point) (t : Orientation) (l w h : Float) → Each StageHolds (box_stages o t l w h)
unfolding box_stages
box_parts o t l w h =
    each_append StageHolds (side_stages o t l w h along_x l 11 ++ side_stages o t l w h along_y w 13) (side_stages o t l w h along_z h 15)
    (each_append StageHolds (side_stages o t l w h along_x l 11) (side_stages o t l w h along_y w 13) (sides_parts o t l w h along_x l 11) (sides_parts o t l w h along_y w 13))
    (sides_parts o t l w h along_z h 15)

cylinder_parts : (t : Orientation) (bottom top : List Point) (h : Float) → Each StageHolds (cylinder_stages t bottom top h)
unfolding cylinder_stages cylinder_side end_face quad
cylinder_parts t bottom top h = (each_list (Of 1) (cylinder_side t bottom top) 16 0 (λ k a b. refl), ((refl, tt), (either (Each (Of 3)) (lt zerof h) {y = []} (refl, tt) tt, (tt, (tt, (tt, tt))))))

solid_parts : (o : Point) (t : Orientation) (x : Extent) → Each StageHolds (solid_stages o t x)
unfolding solid_stages
solid_parts o t (Box l w h) = box_parts o t l w h
solid_parts o t (Cylinder r h) = cylinder_parts t (ring_at o t r zerof) (ring_at o t r h) h
solid_parts o t Unsized = (tt, (tt, (tt, (tt, (tt, (tt, tt))))))

walls_parts : (cs : List Corner) (normal : Vector) (edges : ℕ) → Each (Of 1) (walls cs normal edges)
unfolding walls wall quad
walls_parts cs normal edges = each_list (Of 1) (wall cs normal) edges 0 (λ k a b. refl)

outer_parts : (closed : Bool) (cs : List Corner) (lid : Vector) → Each (Of 1) (outer_walls closed cs lid)
unfolding outer_walls
outer_parts true cs lid = walls_parts cs (about cs lid) (length cs)
outer_parts false cs lid = walls_parts cs zero_v (length cs - 1)

holes_parts : (lid : Vector) (holes : List (List Corner)) → Each (Of 1) (join (hole_walls lid) holes)
unfolding hole_walls
holes_parts lid holes = each_join (λ (h : List Corner). Unit {0}) (Of 1) (hole_walls lid) (λ h u. walls_parts h (negate (about h lid)) (length h)) holes (each_any (λ (h : List Corner). Unit {0}) (λ h. tt) holes)

outline_parts : (closed : Bool) (cs : List Corner) (holes : List (List Corner)) → Each StageHolds (outline_stages closed cs holes)
unfolding outline_stages lid_face floor_faces
outline_parts closed cs holes =
    let lid = lid_normal cs in (
      each_append (Of 1) (outer_walls closed cs lid) (join (hole_walls lid) holes) (outer_parts closed cs lid) (holes_parts lid holes),
      (
        either (Each (Of 2)) closed {y = []} (refl, tt) tt,
        (either (Each (Of 3)) closed {y = []} (either (Each (Of 3)) (has_height (all_corners cs holes)) {y = []} (refl, tt) tt) tt, (tt, (tt, (tt, tt)))),
      ),
    )

pairs_parts : {A : Type 0} (f : A → A → List Face) → ((a b : A) → Each (Of 1) (f a b)) → (xs : List A) → Each (Of 1) (pairs f xs)
unfolding pairs
pairs_parts f h [] = tt
pairs_parts f h (a ∷ []) = tt
pairs_parts f h (a ∷ b ∷ rest) = each_append (Of 1) (f a b) (pairs f (b ∷ rest)) (h a b) (pairs_parts f h (b ∷ rest))

pair_parts : (a b : Section) → Each (Of 1) (pair_faces a b)
unfolding pair_faces quad
pair_parts a b =
    (refl, either (Each (Of 1)) (is_widthless_section a && is_widthless_section b) {x = []} tt (refl, (refl, either (Each (Of 1)) (is_flat_section a && is_flat_section b) {x = []} tt (refl, tt))))

caps_parts : (ss : List Section) → Each (Of 4) (sweep_caps ss)
unfolding sweep_caps cap quad
caps_parts [] = tt
caps_parts (s ∷ rest) = (refl, (refl, tt))

tube_parts : (a b : Ellipse) → Each (Of 1) (tube_faces a b)
unfolding tube_faces tube_side quad
tube_parts a b = each_list (Of 1) (tube_side a b) 16 0 (λ k a b. refl)

tube_caps_parts : (es : List Ellipse) → Each (Of 4) (tube_caps es)
unfolding tube_caps end_face
tube_caps_parts [] = tt
tube_caps_parts (e ∷ rest) = (refl, (refl, tt))

pub stages_parts : (s : Shape) → Each StageHolds (stages_of s)
unfolding stages_of sweep_stages round_stages
stages_parts (solid o t x) = solid_parts o t x
stages_parts (outline closed cs holes) = outline_parts closed cs holes
stages_parts (sweep ss) = (pairs_parts pair_faces pair_parts ss, (tt, (tt, (caps_parts ss, (tt, (tt, tt))))))
stages_parts (round_sweep ss) = (pairs_parts tube_faces tube_parts (map ellipse ss), (tt, (tt, (tube_caps_parts (map ellipse ss), (tt, (tt, tt))))))

-- ---- stages drawn one behind the other

solid_six : (o : Point) (t : Orientation) (x : Extent) → length (solid_stages o t x) ≡ 6
unfolding solid_stages box_stages side_stages cylinder_stages
solid_six o t (Box l w h) = refl
solid_six o t (Cylinder r h) = refl
solid_six o t Unsized = refl

six : (s : Shape) → length (stages_of s) ≡ 6
unfolding stages_of outline_stages sweep_stages round_stages
six (solid o t x) = solid_six o t x
six (outline closed cs holes) = refl
six (sweep ss) = refl
six (round_sweep ss) = refl

module _ (limit : Float) where
  counted_then : (before : ℕ) (fs gs : List Face) (t : Tally)
      → counted limit (before + (counted limit (before + t.vertices) fs t).vertices) gs (counted limit (before + t.vertices) fs t) ≡ counted limit (before + t.vertices) (fs ++ gs) t
  unfolding drawn
  counted_then before fs gs t =
      let d = drawing t [] [] [] in
      drew_tally limit (then limit {fs = fs} {before = before} {d = d} {d' = drawn limit fs before d} {gs = gs} (record { after = refl }) (record { after = refl }))

  counted_none : (before : ℕ) (t : Tally) → counted limit (before + t.vertices) [] t ≡ t
  counted_none before t = sym (drew_tally limit (drew_none limit before (drawing t [] [] [])))

  tallies_append : (before : ℕ) (ss rs : List PartRun) (t : Tally)
      → tallies_of limit before t (ss ++ rs) ≡ tallies_of limit before t ss ++ tallies_of limit before (counted limit (before + t.vertices) (join PartRun.faces ss) t) rs
  unfolding tallies_of join
  tallies_append before [] rs t = ap (λ (u : Tally). tallies_of limit before u rs) (sym (counted_none before t))
  tallies_append before (s ∷ ss) rs t =
      let u = counted limit (before + t.vertices) s.faces t in
      ap (λ (l : List Tally). u ∷ l) (tallies_append before ss rs u ∙ ap (λ (x : Tally). tallies_of limit before u ss ++ tallies_of limit before x rs) (counted_then before s.faces (join PartRun.faces ss) t))

  join_stages : (ss rs : List PartRun) → join PartRun.faces (ss ++ rs) ≡ join PartRun.faces ss ++ join PartRun.faces rs
  unfolding join
  join_stages [] rs = refl
  join_stages (s ∷ ss) rs = ap (λ (l : List Face). s.faces ++ l) (join_stages ss rs) ∙ sym (append_assoc s.faces (join PartRun.faces ss) (join PartRun.faces rs))

  module _ {before : ℕ} where
    pub stages_none : {d : Drawing} → DrewStages limit [] before d d []
    unfolding tallies_of join
    stages_none {d} = record { drew = drew_none limit before d; after = refl }

    -- a stage in front of others
    pub stages_first : {fs : List Face} {ss : List PartRun} {d d' d'' : Drawing} {ts : List Tally} (part : ℕ) → Drew limit fs before d d' → DrewStages limit ss before d' d'' ts
        → DrewStages limit (stage part fs ∷ ss) before d d'' (d'.tally ∷ ts)
    unfolding tallies_of join
    stages_first {fs} {ss} {d} {d'} {d''} {ts} part p q =
        let e = drew_tally limit p in
        record { drew = then limit p q.drew; after = ap₂ (λ (u : Tally) (l : List Tally). u ∷ l) e (q.after ∙ ap (λ (u : Tally). tallies_of limit before u ss) e) }

    -- stages behind others
    pub stages_then : {ss rs : List PartRun} {d d' d'' : Drawing} {ts us : List Tally} → DrewStages limit ss before d d' ts → DrewStages limit rs before d' d'' us
        → DrewStages limit (ss ++ rs) before d d'' (ts ++ us)
    stages_then {ss} {rs} {d} {d'} {d''} {ts} {us} p q = record {
      drew = rw (join_stages ss rs) (then limit p.drew q.drew);
      after = ap₂ ◌++◌ p.after (q.after ∙ ap (λ (u : Tally). tallies_of limit before u rs) (drew_tally limit p.drew)) ∙ sym (tallies_append before ss rs d.tally);
    }

  -- ---- the counts after the last stage

  last_tally : (before : ℕ) (s : PartRun) (ss : List PartRun) (t x : Tally) → get_or (tallies_of limit before t (s ∷ ss)) (length ss) x ≡ counted limit (before + t.vertices) (join PartRun.faces (s ∷ ss)) t
  unfolding tallies_of join
  last_tally before s [] t x = ap (λ (fs : List Face). counted limit (before + t.vertices) fs t) (sym (append-nil s.faces))
  last_tally before s (r ∷ rs) t x =
      last_tally before r rs (counted limit (before + t.vertices) s.faces t) x ∙ counted_then before s.faces (join PartRun.faces (r ∷ rs)) t

  -- of any stages; and of a shape's six
  stages_end : {before : ℕ} {d d' : Drawing} {ts : List Tally} (ss : List PartRun) (n : ℕ) (x : Tally) → length ss ≡ suc n → DrewStages limit ss before d d' ts → get_or ts n x ≡ d'.tally
  stages_end [] n x h p = absurd (omega arith)
  stages_end {before} {d} (s ∷ ss) n x h p =
      let k : n ≡ length ss = omega arith in
      rw (k, p.after) (last_tally before s ss d.tally x ∙ sym (drew_tally limit p.drew))

  pub stages_last : {before : ℕ} {d d' : Drawing} {ts : List Tally} (s : Shape) → DrewStages limit (stages_of s) before d d' ts → last_of ts ≡ d'.tally
  stages_last s p = stages_end (stages_of s) 5 (tally 0 0 0) (six s) p
