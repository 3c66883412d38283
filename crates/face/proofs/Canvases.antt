-- Faces drawn on a canvas one behind the other, and how many more can be counted on it. Assumes nothing.
use mathlib.Core.Path.{◌≡◌, refl, ap, ◌∙◌}
use mathlib.Core.List.{List, [], ◌∷◌, ◌++◌}
use Prim.Native.Nat.{ℕ, ◌+◌, ◌≤◌}
use native.Mathlib.Nat.{zero-add}
use lib.ListN.{length}
use Rattle.lists.specs.Loops.{list, sum_of}
use Rattle.lists.proofs.Lists.{list_append}
use Rattle.face.specs.Faces.{Face}
use Rattle.face.specs.declared.Canvas.{Canvas}
use Rattle.face.specs.Contract.Drawing.{drawing_on, SameLoans, Draws, DrawsFace, CountableOn}
use Rattle.face.proofs.Counts.{count}
use Rattle.face.proofs.Draws.{then, drew_none, drew_countable}

pub same_refl : {c : Canvas} → SameLoans c c
same_refl = record { vertices = refl; normals = refl; indices = refl; limit = refl; before = refl }

pub same_then : {a b c : Canvas} → SameLoans a b → SameLoans b c → SameLoans a c
same_then p q = record {
  vertices = q.vertices ∙ p.vertices;
  normals = q.normals ∙ p.normals;
  indices = q.indices ∙ p.indices;
  limit = q.limit ∙ p.limit;
  before = q.before ∙ p.before;
}

pub draws_none : {c : Canvas} → Draws [] c c
draws_none {c} = record { drew = drew_none c.limit c.before (drawing_on c); same = same_refl }

pub draws_then : {fs gs : List Face} {a b c : Canvas} → Draws fs a b → Draws gs b c → Draws (fs ++ gs) a c
draws_then {a = a} p q = record { drew = then a.limit p.drew (rw (p.same.limit, p.same.before) at q.drew); same = same_then p.same q.same }

-- one of its parts
pub draws_part : {f : ℕ → Face} {a b : Canvas} (part : ℕ) → DrawsFace f a b → Draws (f part ∷ []) a b
draws_part part p = record { drew = p.drew part; same = p.same }

-- v vertices and k triangles more can still be counted
pub draws_countable : {fs : List Face} {a b : Canvas} {w j v k : ℕ} → CountableOn a w j → Draws fs a b → sum_of (λ f. length f.points) fs + v ≤ w → sum_of count fs + k ≤ j → CountableOn b v k
draws_countable {a = a} r p h g = rw p.same.before (drew_countable a.limit r p.drew h g)

-- ---- one more at the end

pub list_more : {A : Type 0} (f : ℕ → A) (k : ℕ) → list f (k + 1) 0 ≡ list f k 0 ++ (f k ∷ [])
unfolding list
list_more f k = list_append f k 1 0 ∙ ap (λ (j : ℕ). list f k 0 ++ (f j ∷ [])) (zero-add k)

-- one turn of a loop that draws f 0, f 1, ..
pub draws_next : (f : ℕ → Face) (k : ℕ) {a b c : Canvas} → Draws (list f k 0) a b → Draws (f k ∷ []) b c → Draws (list f (k + 1) 0) a c
draws_next f k p q = rw (list_more f k) (draws_then p q)
