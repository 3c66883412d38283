-- The vertices that a buffer holds, one at a time. Assumes nothing.
use mathlib.Core.Path.{◌≡◌, sym, ap, ◌∙◌}
use Prim.Native.Nat.{ℕ, ◌+◌, ◌*◌, ◌/◌, ◌<◌}
use native.Mathlib.Nat.{zero-add}
use native.Mathlib.Omega.{arith}
use mathlib.Core.List.{List}
use lib.ListN.{length, get_or}
use lib.Ieee.{Float, nan}
use Rattle.lists.proofs.Lists.{length_list, get_d_list, get_d_any}
use Rattle.float.specs.Number.{zerof}
use Rattle.coords.specs.Coords.{point, origin}
use Rattle.coords.specs.Buffers.{vertex_at, vertices_in}

pub length_vertices : (xs : List Float) → length (vertices_in xs) ≡ length xs / 3
unfolding vertices_in
length_vertices xs = length_list (vertex_at xs) (length xs / 3) 0

module _ (xs : List Float) (k : ℕ) (h : k < length xs / 3) where
  pub vertex_in : vertex_at xs k ≡ get_or (vertices_in xs) k origin
  unfolding vertices_in
  vertex_in = sym (get_d_list (vertex_at xs) (length xs / 3) 0 k origin h ∙ ap (vertex_at xs) (zero-add k))

  -- the numbers that the program reads
  pub vertex_read : point (get_or xs (3 * k) nan) (get_or xs (3 * k + 1) nan) (get_or xs (3 * k + 2) nan) ≡ vertex_at xs k
  vertex_read =
      rw (get_d_any xs (3 * k) nan zerof (omega arith), get_d_any xs (3 * k + 1) nan zerof (omega arith), get_d_any xs (3 * k + 2) nan zerof (omega arith))
