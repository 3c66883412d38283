-- Notes of how far the tests of a ring's places have come: 2 j where the tests below test j pass, 2 j + 1 where test j fails besides. Test 0 of a
-- place is its turn, test k + 1 the corner at place k. Definitions only.
use Rattle.std.specs.Prelude.{◌≡◌, cond, List, ◌++◌, map, ℕ, ◌+◌, ◌-◌, ◌*◌, ◌≤◌, length, get_or, set, take, drop, ltb}
use Rattle.lists.specs.Loops.{next, previous, remove_at}
use Rattle.lists.specs.Slices.{Slice}

-- the note where test j is the first to fail; where the number is too large for a note, the greatest that says only that tests pass
unfoldable pub failed_at : ℕ → ℕ
failed_at j = cond (ltb j 2147483647) (2 * j + 1) 4294967294

-- one less, above low
unfoldable pub down : ℕ → ℕ → ℕ
down low q = cond (ltb low q) (q - 1) q

-- a note where a test is taken out on which only notes above `low` rest: `low` where that test failed, as the next one is yet to be made; two less,
-- by one test, where it rests on later ones
unfoldable pub moved_by : ℕ → ℕ → ℕ
moved_by low q = down low (down low q)

-- the same where the corner at place i is removed
abbrev pub moved : ℕ → ℕ → ℕ
moved i q = moved_by (2 * i + 2) q

-- that bound, as far as notes go
unfoldable pub capped : ℕ → ℕ
capped i = cond (ltb i 2147483647) (2 * i + 2) 4294967295

-- notes of which those before place i are moved, each to the place behind its own; the first place keeps its note
abbrev pub moved_before : ℕ → ℕ → List ℕ → List ℕ
moved_before low i why = take 1 why ++ (map (moved_by low) (take i why) ++ drop (i + 1) why)

-- there is no note from place m on
abbrev pub NoneFrom : ℕ → List ℕ → Type 0
NoneFrom m why = (k : ℕ) → m ≤ k → get_or why k 0 ≡ 0

-- the notes where those of the neighbours of place i start anew
abbrev pub anew : ℕ → List ℕ → List ℕ
anew i why = set (set why (previous (length why) i) 0) (next (length why) i) 0

-- the notes of a ring where the corner at place i is removed: those of its neighbours, whose triangles change, start anew, and the others move
unfoldable pub without : ℕ → List ℕ → List ℕ
without i why = map (moved i) (remove_at i (anew i why))

-- the notes in a lent slice became those, from its second place on; the first, which is left over, keeps its note unless it is a neighbour's
abbrev pub PlaceForgotten : ℕ → Slice ℕ → Type 0
PlaceForgotten i why = why.exit.now ≡ take 1 (anew i why.entry.now) ++ without i why.entry.now
