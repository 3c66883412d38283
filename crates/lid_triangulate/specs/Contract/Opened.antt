-- A lid whose outer ring is not too small: what is written of it, and the room that it needs. Definitions only.
use Rattle.std.specs.Prelude.{ℕ, ◌+◌, ◌≤◌, ◌≡◌, List, ◌++◌, length, take}
use Rattle.lists.specs.Each.{Each}
use Rattle.lists.specs.Loops.{list, sum_of}
use Rattle.lists.specs.Slices.{Slice}
use Rattle.object.specs.Limits.{most_holes}
use Rattle.face_triangle.specs.Triangles.{Triangle}
use Rattle.lid.specs.declared.Flat.{Flat}
use Rattle.lid.specs.declared.Prepared.{Prepared}
use Rattle.lid.specs.Log.{Entry, Logged}
use Rattle.lid.specs.Rings.{turn_outer, rings_from, holes_from, skipped_from, in_order}
use Rattle.lid.specs.Bridges.{join_all}
use Rattle.lid.specs.Clipping.{clip_ring}
use Rattle.lid.specs.Lid.{Lid, lid_from}
use Rattle.lid.specs.Contract.Written.{log_with}
use Rattle.lid_hole.specs.Contract.Holes.{holes_numbered, Joinable}
use Rattle.lid_cut.specs.Contract.CutRing.{ring_entries, ring_triangles}

-- those of a lid whose holes are joined, to j
abbrev pub open_entries : List Flat → Logged → List Entry
open_entries fs j = j.log ++ ring_entries (clip_ring fs j.ring)

abbrev pub open_triangles : List Flat → Logged → List Triangle
open_triangles fs j = ring_triangles fs (clip_ring fs j.ring)

-- the lid where its outer ring is not too small
abbrev pub lid_open : List Flat → ℕ → List ℕ → Lid
lid_open fs outer counts =
    lid_from fs (skipped_from fs 0 (rings_from outer counts)) (join_all fs (in_order fs (holes_from fs 0 (rings_from outer counts))) (turn_outer fs (list (λ i. i) outer 0)))

-- an outline of not too many holes, and buffers with room for its lid
pub record BuffersFit (outer : ℕ) (counts : List ℕ) (ring hole : ℕ) : Type 0 where
  pub holes : length counts ≤ most_holes
  pub places : outer + sum_of (λ n. n + 2) counts ≤ ring
  pub few : ring ≤ 576
  pub same : hole ≡ ring

-- the skipped holes have their entries, and the others stand in joining order in the front of a buffer; each has room in one of that size
pub record Prepares (fs : List Flat) (outer : ℕ) (counts : List ℕ) (room : ℕ) (order log log' : List ℕ) (r : Prepared) : Type 0 where
  pub written : log' ≡ log_with log 0 (skipped_from fs 0 (rings_from outer counts))
  pub entries : r.entries ≡ length (skipped_from fs 0 (rings_from outer counts))
  pub ordered : holes_numbered fs outer counts (take r.holes order) ≡ in_order fs (holes_from fs 0 (rings_from outer counts))
  pub fewer : r.holes ≤ length order
  pub joinable : Each (Joinable counts room) (take r.holes order)

-- the same of the lent slices, `room` being that of the one for a hole
abbrev pub HolesPrepared : List Flat → ℕ → List ℕ → ℕ → Slice ℕ → Slice ℕ → Prepared → Type 0
HolesPrepared fs outer counts room order log r = Prepares fs outer counts room order.exit.now log.entry.now log.exit.now r
