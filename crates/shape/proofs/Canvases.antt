-- Stages drawn on a canvas one behind the other, and how many more can be counted on it. Assumes nothing.
use mathlib.Core.List.{List, [], ◌∷◌, ◌++◌}
use Prim.Native.Nat.{ℕ, ◌+◌, ◌≤◌}
use Rattle.coords_vector.specs.declared.Vector.{Vector}
use Rattle.object.specs.declared.Corner.{Corner}
use Rattle.face.specs.declared.Canvas.{Canvas}
use Rattle.face.specs.declared.Tally.{Tally}
use Rattle.face.specs.Faces.{Triangle, Face}
use Rattle.face.specs.Contract.Drawing.{Draws, CountableOn}
use Rattle.face.proofs.Canvases.{same_refl, same_then, draws_none}
use Rattle.shape.specs.Contract.Stages.{PartRun, stage, four_stages, lid_face, floor_faces, lid_stages, DrawsStages}
use Rattle.shape.proofs.Sized.{Sized, countable_left}
use Rattle.shape.proofs.Stages.{stages_none, stages_first, stages_then}

-- v' vertices and k' triangles more can still be counted
pub draws_left : {fs : List Face} {a b : Canvas} {v k w j v' k' : ℕ} → CountableOn a w j → Draws fs a b → Sized fs v k → v + v' ≤ w → k + k' ≤ j → CountableOn b v' k'
draws_left {a = a} r p s h g = rw p.same.before (countable_left a.limit r p.drew s h g)

pub drawn_none : {a : Canvas} → DrawsStages [] [] a a
drawn_none {a} = record { drew = stages_none a.limit; same = same_refl }

-- a stage in front of others
pub drawn_first : {fs : List Face} {ss : List PartRun} {ts : List Tally} {a b c : Canvas} (part : ℕ) → Draws fs a b → DrawsStages ss ts b c → DrawsStages (stage part fs ∷ ss) (b.tally ∷ ts) a c
drawn_first {a = a} part p q = record { drew = stages_first a.limit part p.drew (rw (p.same.limit, p.same.before) at q.drew); same = same_then p.same q.same }

pub drawn_empty : {ss : List PartRun} {ts : List Tally} {a c : Canvas} (part : ℕ) → DrawsStages ss ts a c → DrawsStages (stage part [] ∷ ss) (a.tally ∷ ts) a c
drawn_empty part q = drawn_first part draws_none q

-- stages behind others
pub drawn_then : {ss rs : List PartRun} {ts us : List Tally} {a b c : Canvas} → DrawsStages ss ts a b → DrawsStages rs us b c → DrawsStages (ss ++ rs) (ts ++ us) a c
drawn_then {a = a} p q = record { drew = stages_then a.limit p.drew (rw (p.same.limit, p.same.before) at q.drew); same = same_then p.same q.same }

-- nothing in any stage
pub drawn_nothing : {a : Canvas} → DrawsStages (four_stages [] [] [] []) (a.tally ∷ a.tally ∷ a.tally ∷ a.tally ∷ a.tally ∷ a.tally ∷ []) a a
drawn_nothing = drawn_empty 1 (drawn_empty 2 (drawn_empty 3 (drawn_empty 4 (drawn_empty 5 (drawn_empty 6 drawn_none)))))

-- sides and caps
pub drawn_capped : {sides caps : List Face} {a b c : Canvas} → Draws sides a b → Draws caps b c
    → DrawsStages (four_stages sides [] [] caps) (b.tally ∷ b.tally ∷ b.tally ∷ c.tally ∷ c.tally ∷ c.tally ∷ []) a c
drawn_capped p q = drawn_first 1 p (drawn_empty 2 (drawn_empty 3 (drawn_first 4 q (drawn_empty 5 (drawn_empty 6 drawn_none)))))

-- walls, lid and floor
pub drawn_lidded : {sides : List Face} (cs : List Corner) (lid : Vector) (ts : List Triangle) {a b c : Canvas} {t u : Tally}
    → Draws sides a b → DrawsStages (lid_stages cs lid ts) (t ∷ u ∷ []) b c
    → DrawsStages (four_stages sides (lid_face cs lid ts ∷ []) (floor_faces cs lid ts) []) (b.tally ∷ t ∷ u ∷ c.tally ∷ c.tally ∷ c.tally ∷ []) a c
drawn_lidded cs lid ts p q = drawn_first 1 p (drawn_then q (drawn_empty 4 (drawn_empty 5 (drawn_empty 6 drawn_none))))

-- walls alone
pub drawn_walls : {sides : List Face} {a b : Canvas} → Draws sides a b
    → DrawsStages (four_stages sides [] [] []) (b.tally ∷ b.tally ∷ b.tally ∷ b.tally ∷ b.tally ∷ b.tally ∷ []) a b
drawn_walls p = drawn_first 1 p (drawn_empty 2 (drawn_empty 3 (drawn_empty 4 (drawn_empty 5 (drawn_empty 6 drawn_none)))))
