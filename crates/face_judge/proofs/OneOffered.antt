-- One triangle offered: it counts once; a triangle among those of a face; the two of a face of four points. Assumes nothing.
use mathlib.Core.Path.{◌≡◌}
use Prim.Native.Nat.{ℕ, ◌+◌, ◌*◌, ◌<◌}
use native.Mathlib.Nat.{zero-add, add-zero}
use native.Mathlib.Omega.{arith}
use mathlib.Core.List.{List, [], ◌∷◌}
use lib.Ieee.{Float}
use lib.Seq.{sets}
use Rattle.lists.specs.Loops.{list, fold}
use Rattle.lists.specs.Each.{Each}
use Rattle.lists.proofs.Lists.{each_at, get_d_list, length_list}
use Rattle.coords.specs.declared.Point.{Point}
use Rattle.coords_vector.specs.declared.Vector.{Vector}
use Rattle.face_judge.specs.declared.Side.{Side}
use Rattle.face_judge.specs.declared.Side.TheVariants.{Thin, Front, Back}
use Rattle.face_judge.specs.declared.Sum.{Sum}
use Rattle.face_triangle.specs.Triangles.{Triangle, triangle}
use Rattle.face_triangle.specs.Contract.Triangles.{TriangleLow}
use Rattle.face_judge.specs.Contract.Offered.{side_of, side_in, indices_of, gathered, Offered, offered, no_sum, offer_one, offer_all}

-- each triangle counts once
gathered_one : (k : Side) (s : Sum) → (gathered k s).kept + (gathered k s).thin ≡ s.kept + s.thin + 1
unfolding gathered
gathered_one Thin s = omega arith
gathered_one (Front n) s = omega arith
gathered_one (Back n) s = omega arith

pub counted_once : (k : Side) (s r : Sum) → r ≡ gathered k s → r.kept + r.thin ≡ s.kept + s.thin + 1
counted_once k s r e = rw e (gathered_one k s)

-- a triangle among those of a face
pub low_at : (n : ℕ) (f : ℕ → Triangle) (m j : ℕ) → j < m → Each (TriangleLow n) (list f m 0) → TriangleLow n (f j)
low_at n f m j h e =
    rw (zero-add) at (rw (get_d_list f m 0 j (f 0) h) at (each_at (TriangleLow n) (list f m 0) j (f 0) (rw length_list h) e))

pub one_counted : (limit : Float) (ps : List Point) (out : Vector) (base n : ℕ) (o p : Offered) (t : Triangle) → p ≡ offer_one limit ps out base n o t
    → p.sum.kept + p.sum.thin ≡ o.sum.kept + o.sum.thin + 1
unfolding offer_one
one_counted limit ps out base n o p t e = rw e (gathered_one (side_in limit ps out t) o.sum)

-- the triangles of the points a, b, c and a, c, d, offered one after the other
module _ (limit : Float) (out : Vector) (a b c d : Point) (base n : ℕ) (is : List ℕ) {js ks : List ℕ} {s r : Sum} where
  pub two_offered : s ≡ gathered (side_of limit out a b c) no_sum → js ≡ sets is (3 * n) (indices_of (side_of limit out a b c) base (base + 1) (base + 2))
      → r ≡ gathered (side_of limit out a c d) s → ks ≡ sets js (3 * (n + s.kept)) (indices_of (side_of limit out a c d) base (base + 2) (base + 3))
      → offered r ks ≡ offer_all limit (a ∷ b ∷ c ∷ d ∷ []) out base n is (triangle 0 1 2 ∷ triangle 0 2 3 ∷ [])
  unfolding offer_all fold offer_one side_in
  two_offered e f g h = rw (h, g, f, e, add-zero base, add-zero n)
