-- The points and triangles of a list of faces, at the most, and so how many more can be counted after drawing them. Assumes nothing.
use mathlib.Core.Path.{◌≡◌}
use mathlib.Core.Bool.{Bool, cond}
use mathlib.Core.List.{List, ◌++◌}
use Prim.Native.Nat.{ℕ, ◌+◌, ◌*◌, ◌≤◌}
use native.Mathlib.Omega.{arith}
use lib.ListN.{length}
use lib.Ieee.{Float}
use Rattle.lists.specs.Loops.{list, sum_of}
use Rattle.lists.proofs.Lists.{sum_append, sum_list}
use Rattle.lists.proofs.Loops.{either}
use Rattle.face.specs.Faces.{Face}
use Rattle.face.specs.Contract.Drawing.{Drawing, Drew, Countable}
use Rattle.face.proofs.Counts.{count}
use Rattle.face.proofs.Draws.{drew_countable}

pub record Sized (fs : List Face) (v k : ℕ) : Type 0 where
  pub points : sum_of (λ (f : Face). length f.points) fs ≤ v
  pub triangles : sum_of count fs ≤ k

pub sized_append : {fs gs : List Face} {v w k j : ℕ} → Sized fs v k → Sized gs w j → Sized (fs ++ gs) (v + w) (k + j)
sized_append {fs} {gs} p q = record {
  points = omega (arith, sum_append (λ (f : Face). length f.points) fs gs);
  triangles = omega (arith, sum_append count fs gs);
}

pub sized_cond : (b : Bool) {fs gs : List Face} {v k : ℕ} → Sized fs v k → Sized gs v k → Sized (cond b fs gs) v k
sized_cond b {fs} {gs} {v} {k} p q = either (λ (xs : List Face). Sized xs v k) b {x = fs} {y = gs} p q

-- of n faces with v points and k triangles each
pub sized_list : (f : ℕ → Face) (v k : ℕ) → ((i : ℕ) → length (f i).points ≡ v) → ((i : ℕ) → count (f i) ≡ k) → (n : ℕ) → Sized (list f n 0) (v * n) (k * n)
sized_list f v k p q n = record {
  points = omega (arith, sum_list (λ (g : Face). length g.points) v f p n 0);
  triangles = omega (arith, sum_list count k f q n 0);
}

pub countable_left : (limit : Float) {fs : List Face} {before : ℕ} {d d' : Drawing} {v k w j v' k' : ℕ}
    → Countable before d.tally w j → Drew limit fs before d d' → Sized fs v k → v + v' ≤ w → k + k' ≤ j → Countable before d'.tally v' k'
countable_left limit r p s h g = drew_countable limit r p (omega arith) (omega arith)
