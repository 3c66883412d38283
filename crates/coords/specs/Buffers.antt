-- Document 01, section 7: vertices and normals as numbers in a buffer, three to one, and read back from it.
use Rattle.std.specs.Prelude.{ℕ, ◌+◌, ◌*◌, ◌/◌, List, [], ◌∷◌, length, slice_index_or, Float}
use Rattle.lists.specs.Loops.{list, join}
use Rattle.float.specs.Number.{zerof}
use Rattle.coords.specs.declared.Point.{Point}
use Rattle.coords_vector.specs.declared.Vector.{Vector}
use Rattle.coords.specs.Coords.{point}

-- ---- written

abbrev pub vertex_record : Point → List Float
vertex_record p = p.x ∷ p.y ∷ p.z ∷ []

unfoldable pub vertex_numbers : List Point → List Float
vertex_numbers ps = join vertex_record ps

abbrev pub normal_record : Vector → List Float
normal_record n = n.x ∷ n.y ∷ n.z ∷ []

unfoldable pub normal_numbers : List Vector → List Float
normal_numbers ns = join normal_record ns

-- ---- read: vertex number k, and all

abbrev pub vertex_at : List Float → ℕ → Point
vertex_at xs k = point (slice_index_or xs (3 * k) zerof) (slice_index_or xs (3 * k + 1) zerof) (slice_index_or xs (3 * k + 2) zerof)

unfoldable pub vertices_in : List Float → List Point
vertices_in xs = list (vertex_at xs) (length xs / 3) 0
