-- Document 01, section 4: a face, which of its triangles are thin, kept and turned, and what it writes.
use Rattle.std.specs.Prelude.{ℕ, ◌+◌, ◌-◌, Bool, cond, List, [], ◌∷◌, ◌++◌, length, get_or, replicate, Float}
use Rattle.std.specs.Float.Ieee.{lt}
use Rattle.lists.specs.Loops.{list, join, count_of}
use Rattle.float.specs.Number.{zerof}
use Rattle.coords.specs.declared.Point.{Point}
use Rattle.coords_vector.specs.declared.Vector.{Vector}
use Rattle.coords_vector.specs.Vectors.{zero_v, unit_z, plus, less, dot, cross, norm, normalize_or}
use Rattle.coords.specs.Coords.{origin, diff}
pub use Rattle.face_triangle.specs.Triangles.{Triangle, triangle}

-- `part` names the part of the object that the face belongs to: 1 walls and sides, 2 lid, 3 floor, 4 caps, 11 to 16 a box's faces
pub record Face : Type 0 where
  pub points : List Point
  pub triangles : List Triangle
  pub out : Vector
  pub part : ℕ

-- the triangles of a convex polygon of n corners, from its first
unfoldable pub fan : ℕ → List Triangle
fan n = list (λ i. triangle 0 i (i + 1)) (n - 2) 1

-- a face of four points
unfoldable pub quad : ℕ → Point → Point → Point → Point → Vector → Face
quad part p q r s out = record { points = p ∷ q ∷ r ∷ s ∷ []; triangles = fan 4; out = out; part = part }

-- ---- one triangle

-- (b - a) × (c - a)
unfoldable pub normal : List Point → Triangle → Vector
normal ps t = let p = get_or ps t.a origin in cross (diff (get_or ps t.b origin) p) (diff (get_or ps t.c origin) p)

unfoldable pub is_thin : Float → List Point → Triangle → Bool
is_thin limit ps t = lt (norm (normal ps t)) limit

unfoldable pub is_turned : List Point → Vector → Triangle → Bool
is_turned ps out t = lt (dot (normal ps t) out) zerof

-- the triangle as it is written: turned where it faces the other way
unfoldable pub facing : List Point → Vector → Triangle → Triangle
facing ps out t = cond (is_turned ps out t) (triangle t.a t.c t.b) t

-- ---- all triangles of a face

unfoldable pub thin_in : Float → Face → ℕ
thin_in limit f = count_of (is_thin limit f.points) f.triangles

unfoldable pub kept_from : Float → List Point → Vector → List Triangle → List Triangle
kept_from limit ps out [] = []
kept_from limit ps out (t ∷ ts) = let more = kept_from limit ps out ts in cond (is_thin limit ps t) more (facing ps out t ∷ more)

unfoldable pub kept_of : Float → Face → List Triangle
kept_of limit f = kept_from limit f.points f.out f.triangles

-- a triangle's normal is left out, subtracted from the sum or added to it
unfoldable pub add_normal : Bool → Bool → Vector → Vector → Vector
add_normal thin turned sum n = cond thin sum (cond turned (less sum n) (plus sum n))

-- the kept triangles' normals, each as its triangle is turned, added to `sum` in order
unfoldable pub normal_from : Float → List Point → Vector → Vector → List Triangle → Vector
normal_from limit ps out sum [] = sum
normal_from limit ps out sum (t ∷ ts) = normal_from limit ps out (add_normal (is_thin limit ps t) (is_turned ps out t) sum (normal ps t)) ts

-- the normal of each of the face's points
unfoldable pub face_normal : Float → Face → Vector
face_normal limit f = normalize_or (normal_from limit f.points f.out zero_v f.triangles) unit_z

-- ---- what faces write, the first free vertex being number `first`

pub record Piece : Type 0 where
  pub vertices : List Point
  pub normals : List Vector
  pub indices : List ℕ

unfoldable pub nothing : Piece
nothing = record { vertices = []; normals = []; indices = [] }

unfoldable pub behind : Piece → Piece → Piece
behind p q = record { vertices = p.vertices ++ q.vertices; normals = p.normals ++ q.normals; indices = p.indices ++ q.indices }

unfoldable pub numbered : ℕ → List Triangle → List ℕ
numbered first ts = join (λ (t : Triangle). (first + t.a) ∷ (first + t.b) ∷ (first + t.c) ∷ []) ts

-- the kept triangles with all points and their normal, or nothing where none is kept
unfoldable pub write_kept : Float → ℕ → Face → List Triangle → Piece
write_kept limit first f [] = nothing
write_kept limit first f (t ∷ ts) =
    record { vertices = f.points; normals = replicate (length f.points) (face_normal limit f); indices = numbered first (t ∷ ts) }

unfoldable pub write_face : Float → ℕ → Face → Piece
write_face limit first f = write_kept limit first f (kept_of limit f)

unfoldable pub write_faces : Float → ℕ → List Face → Piece
write_faces limit first [] = nothing
write_faces limit first (f ∷ fs) =
    let p = write_face limit first f in
    behind p (write_faces limit (first + length p.vertices) fs)
