-- The corner numbers of a face's triangles are numbers of its points: the kept triangles keep it, and fans have it. Assumes nothing.
use mathlib.Core.List.{List, [], ◌∷◌}
use Prim.Native.Nat.{ℕ, zero, suc, ◌+◌, ◌-◌, ◌<◌}
use native.Mathlib.Omega.{arith}
use lib.ListN.{length}
use lib.Ieee.{Float}
use Rattle.lists.specs.Loops.{list}
use Rattle.lists.specs.Each.{Each}
use Rattle.coords.specs.declared.Point.{Point}
use Rattle.coords_vector.specs.declared.Vector.{Vector}
use Rattle.face.specs.Faces.{Triangle, triangle, Face, fan, quad, is_thin, is_turned, facing, kept_from, kept_of}
use Rattle.face.specs.Contract.Faces.{TriangleLow, FaceLow}
use Rattle.lists.proofs.Loops.{either}

-- ---- the kept triangles are turned, and keep their corners

module _ (limit : Float) (ps : List Point) (out : Vector) (n : ℕ) where
  facing_low : (t : Triangle) → TriangleLow n t → TriangleLow n (facing ps out t)
  unfolding facing
  facing_low t q = either (TriangleLow n) (is_turned ps out t) {x = triangle t.a t.c t.b} {y = t} (q.0, q.2, q.1) q

  kept_from_low : (ts : List Triangle) → Each (TriangleLow n) ts → Each (TriangleLow n) (kept_from limit ps out ts)
  unfolding kept_from
  kept_from_low [] q = tt
  kept_from_low (t ∷ ts) q =
      let more = kept_from limit ps out ts in
      either (Each (TriangleLow n)) (is_thin limit ps t) {x = more} {y = facing ps out t ∷ more} (kept_from_low ts q.1) (facing_low t q.0, kept_from_low ts q.1)

pub kept_low : (limit : Float) (f : Face) → FaceLow f → Each (TriangleLow (length f.points)) (kept_of limit f)
unfolding kept_of
kept_low limit f q = kept_from_low limit f.points f.out (length f.points) f.triangles q

-- ---- fans

fan_from : (m k i : ℕ) → i + k < m → Each (TriangleLow m) (list (λ i. triangle 0 i (i + 1)) k i)
unfolding list
fan_from m zero i h = tt
fan_from m (suc k) i h = ((omega arith, omega arith, omega arith), fan_from m k (suc i) (omega arith))

pub fan_low : (m n : ℕ) → 1 + (n - 2) < m → Each (TriangleLow m) (fan n)
unfolding fan
fan_low m n h = fan_from m (n - 2) 1 h

pub quad_low : (part : ℕ) (p q r s : Point) (out : Vector) → FaceLow (quad part p q r s out)
unfolding quad
quad_low part p q r s out = fan_low 4 4 (omega arith)
