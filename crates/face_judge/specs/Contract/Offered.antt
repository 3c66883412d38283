-- The loop of `face` over its triangles, one at a time: what is counted and added up, and the indices that are written as it goes. For the contracts of this
-- crate's functions; face_draw/proofs/Offers.antt shows that it comes to what face/specs/Faces.antt says of the whole list. Definitions only.
use Rattle.std.specs.Prelude.{◌≡◌, ℕ, ◌+◌, ◌*◌, ◌/◌, ◌<◌, ◌^◌, cond, List, [], ◌∷◌, length, get_or, Float}
use Rattle.std.proofs.lemmas.List.Edits.{sets}
use Rattle.std.specs.Float.Ieee.{lt}
use Rattle.lists.specs.Each.{Each}
use Rattle.lists.specs.Loops.{fold}
use Rattle.lists.specs.Slices.{Slice}
use Rattle.float.specs.Number.{zerof}
use Rattle.coords.specs.declared.Point.{Point}
use Rattle.coords_vector.specs.declared.Vector.{Vector}
use Rattle.coords_vector.specs.Vectors.{zero_v, plus, less, dot, cross, norm}
use Rattle.coords.specs.Coords.{origin, diff}
use Rattle.coords.specs.Buffers.{vertices_in}
use Rattle.face_judge.specs.declared.Side.{Side}
use Rattle.face_judge.specs.declared.Side.TheVariants.{Thin, Front, Back}
use Rattle.face_judge.specs.declared.Sum.{Sum}
use Rattle.face_triangle.specs.Triangles.{Triangle, triangle}
use Rattle.face_triangle.specs.Contract.Triangles.{TriangleLow, triangle_at, triangles_in}

-- ---- one triangle

-- thin, or with its cross product, as it faces out or away
unfoldable pub side_of : Float → Vector → Point → Point → Point → Side
side_of limit out p q r =
    let n = cross (diff q p) (diff r p) in
    cond (lt (norm n) limit) Thin (cond (lt (dot n out) zerof) (Back n) (Front n))

unfoldable pub side_in : Float → List Point → Vector → Triangle → Side
side_in limit ps out t = side_of limit out (get_or ps t.a origin) (get_or ps t.b origin) (get_or ps t.c origin)

-- the indices of a kept triangle, turned where it faces away
unfoldable pub indices_of : Side → ℕ → ℕ → ℕ → List ℕ
indices_of Thin a b c = []
indices_of (Front n) a b c = a ∷ b ∷ c ∷ []
indices_of (Back n) a b c = a ∷ c ∷ b ∷ []

unfoldable pub gathered : Side → Sum → Sum
gathered Thin s = record { normal = s.normal; kept = s.kept; thin = s.thin + 1 }
gathered (Front n) s = record { normal = plus s.normal n; kept = s.kept + 1; thin = s.thin }
gathered (Back n) s = record { normal = less s.normal n; kept = s.kept + 1; thin = s.thin }

-- ---- all of them

-- the sums and the indices' buffer
pub record Offered : Type 0 where
  pub sum : Sum
  pub indices : List ℕ

abbrev pub no_sum : Sum
no_sum = record { normal = zero_v; kept = 0; thin = 0 }

abbrev pub offered : Sum → List ℕ → Offered
offered s is = record { sum = s; indices = is }

-- one triangle more: vertices count from `base`, and the kept triangles stand from place n on
unfoldable pub offer_one : Float → List Point → Vector → ℕ → ℕ → Offered → Triangle → Offered
offer_one limit ps out base n o t =
    let k = side_in limit ps out t in
    record {
      sum = gathered k o.sum;
      indices = sets o.indices (3 * (n + o.sum.kept)) (indices_of k (base + t.a) (base + t.b) (base + t.c));
    }

unfoldable pub offer_all : Float → List Point → Vector → ℕ → ℕ → List ℕ → List Triangle → Offered
offer_all limit ps out base n is ts = fold (offer_one limit ps out base n) (offered no_sum is) ts

-- the two triangles of a face of four points, from the first
abbrev pub quad_triangles : List Triangle
quad_triangles = triangle 0 1 2 ∷ triangle 0 2 3 ∷ []

-- ---- of lent slices

-- the corners of the lent triangles are numbers of the lent points
abbrev pub TrianglesAmong : List Float → List ℕ → Type 0
TrianglesAmong points triangles = Each (TriangleLow (length (vertices_in points))) (triangles_in triangles)

-- triangle number j is one of those lent and can be offered: its corners are among the lent points, and what is counted and written stays below 2 ^ 32
abbrev pub CanOffer : List Float → List ℕ → ℕ → ℕ → ℕ → Sum → Type 0
CanOffer points triangles j base n s =
    (j < length triangles / 3) × TriangleLow (length points / 3) (triangle_at triangles j) × (base + length points / 3 < 2 ^ 32)
    × (n + s.kept + 1 < 2 ^ 32) × (s.thin + 1 < 2 ^ 32)

-- the triangle was offered, its indices written to the lent slice and the sum s became r; and all of them, from no sum on
abbrev pub OffersOne : Float → List Point → Vector → ℕ → ℕ → Triangle → Sum → Sum → Slice ℕ → Type 0
OffersOne limit ps out base n t s r is = offered r is.exit.now ≡ offer_one limit ps out base n (offered s is.entry.now) t

abbrev pub OffersAll : Float → List Point → Vector → ℕ → ℕ → List Triangle → Sum → Slice ℕ → Type 0
OffersAll limit ps out base n ts r is = offered r is.exit.now ≡ offer_all limit ps out base n is.entry.now ts
