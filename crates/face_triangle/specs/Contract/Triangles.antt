-- Triangles whose corners are points of their face, and triangles as numbers in a slice.
use Rattle.std.specs.Prelude.{ℕ, ◌+◌, ◌*◌, ◌<◌, ◌/◌, List, [], ◌∷◌, length, get_or}
use Rattle.lists.specs.Loops.{list}
use Rattle.face_triangle.specs.Triangles.{Triangle, triangle}

-- the corner numbers of a face's triangles are numbers of its points
abbrev pub TriangleLow : ℕ → Triangle → Type 0
TriangleLow n t = (t.a < n) × (t.b < n) × (t.c < n)

-- ---- triangles as numbers in a slice, three to one

abbrev pub triangle_record : Triangle → List ℕ
triangle_record t = t.a ∷ t.b ∷ t.c ∷ []

abbrev pub triangle_at : List ℕ → ℕ → Triangle
triangle_at xs k = triangle (get_or xs (3 * k) 0) (get_or xs (3 * k + 1) 0) (get_or xs (3 * k + 2) 0)

unfoldable pub triangles_in : List ℕ → List Triangle
triangles_in xs = list (triangle_at xs) (length xs / 3) 0
