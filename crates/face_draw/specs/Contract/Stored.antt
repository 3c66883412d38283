-- The points of a face in the lent buffers. Definitions only.
use Rattle.std.specs.Prelude.{◌≡◌, ℕ, ◌*◌, List, length, replicate, Float}
use Rattle.std.proofs.lemmas.List.Edits.{sets}
use Rattle.lists.specs.Slices.{Slice}
use Rattle.coords_vector.specs.declared.Vector.{Vector}
use Rattle.coords.specs.declared.Point.{Point}
use Rattle.coords.specs.Buffers.{vertex_numbers, normal_numbers}

-- the points were stored in the lent slices from vertex number `at` on, each with the normal
abbrev pub Stores : List Point → Vector → ℕ → Slice Float → Slice Float → Type 0
Stores points normal at vs ns =
    (vs.exit.now ≡ sets vs.entry.now (3 * at) (vertex_numbers points))
    × (ns.exit.now ≡ sets ns.entry.now (3 * at) (normal_numbers (replicate (length points) normal)))
