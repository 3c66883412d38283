-- What is written of a ring that is clipped. Definitions only.
use Rattle.std.specs.Prelude.{◌≡◌, ℕ, ◌+◌, List, ◌++◌, map, length}
use Rattle.lists.specs.Slices.{Slice}
use Rattle.face_triangle.specs.Triangles.{Triangle}
use Rattle.lid.specs.declared.Flat.{Flat}
use Rattle.lid.specs.declared.LidCounts.{LidCounts}
use Rattle.lid.specs.Log.{Entry, entry, Logged}
use Rattle.lid.specs.Clipping.{clip_ring}
use Rattle.lid.specs.Lid.{Lid, ears_of, last_triangle}
use Rattle.lid.specs.Contract.Written.{log_with, triangles_with}

-- the entries of a ring clipped to k, and its triangles
abbrev pub ring_entries : Logged → List Entry
ring_entries k = k.log ++ map (λ a. entry 3 a 0 0) k.ring

abbrev pub ring_triangles : List Flat → Logged → List Triangle
ring_triangles fs k = ears_of k.log ++ last_triangle fs k.ring

-- both, for a ring that no hole is to be joined to
abbrev pub ring_lid : List Flat → List ℕ → Lid
ring_lid fs ring = record { log = ring_entries (clip_ring fs ring); triangles = ring_triangles fs (clip_ring fs ring) }

-- the entries and the triangle of the corners left in a ring were written, from entry n of the log on and behind `count` triangles
abbrev pub RestWritten : List Flat → List ℕ → Slice ℕ → ℕ → Slice ℕ → ℕ → LidCounts → Type 0
RestWritten fs ring log n triangles count r =
    (log.exit.now ≡ log_with log.entry.now n (map (λ a. entry 3 a 0 0) ring))
    × (triangles.exit.now ≡ triangles_with triangles.entry.now count (last_triangle fs ring))
    × (r ≡ record { entries = n + length ring; triangles = count + length (last_triangle fs ring) })
