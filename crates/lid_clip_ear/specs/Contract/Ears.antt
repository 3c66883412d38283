-- Tests of whether places are ears, notes of how far they have come, and what a search does to the notes. Definitions only.
use Rattle.std.specs.Prelude.{◌≡◌, Bool, true, false, not, cond, List, ℕ, zero, suc, ◌+◌, ◌-◌, ◌/◌, ◌%◌, ◌<◌, ◌≤◌, length, get_or, set, eqb, Option, None, Some}
use Rattle.std.specs.Float.Ieee.{lt}
use Rattle.lists.specs.Loops.{first}
use Rattle.float.specs.Number.{zerof}
use Rattle.lid.specs.declared.Flat.{Flat}
use Rattle.lid.specs.Rings.{turn_of}
use Rattle.lid.specs.Clipping.{before, here, after, clear}
use Rattle.lid_clip_ear.specs.Contract.Notes.{failed_at}

-- place i fails test j: test 0 is its turn, and test k + 1 the corner at place k, which is not to stand in the way. An ear fails none, from test 0 to
-- that of the last place
unfoldable pub fails : List Flat → List ℕ → ℕ → ℕ → Bool
fails fs ring i zero = not (lt zerof (turn_of fs (before ring i) (here ring i) (after ring i)))
fails fs ring i (suc k) = not (clear fs (before ring i) (here ring i) (after ring i) (get_or ring k 0))

-- what the note q says of place i: tests below test q / 2 pass, and where q is odd this one fails
pub record Noted (fs : List Flat) (ring : List ℕ) (i q : ℕ) : Type 0 where
  pub passed : (j : ℕ) → j < q / 2 → fails fs ring i j ≡ false
  pub stopped : q % 2 ≡ 1 → (q / 2 ≤ length ring) × (fails fs ring i (q / 2) ≡ true)

-- every note holds
pub record Known (fs : List Flat) (ring why : List ℕ) : Type 0 where
  pub noted : (k : ℕ) → k < length ring → Noted fs ring k (get_or why k 0)

-- the note of a place, by the first test that it fails; an ear, which fails none, has no note
unfoldable pub told : Option ℕ → Option ℕ
told (Some j) = Some (failed_at j)
told None = None

-- the note of place i by its tests, where it had the note q
unfoldable pub tested : List Flat → List ℕ → ℕ → ℕ → Option ℕ
tested fs ring i q = told (first (fails fs ring i) (suc (length ring) - q / 2) (q / 2))

-- the same, where a place that is noted to fail a test is not tested
unfoldable pub looked : List Flat → List ℕ → ℕ → ℕ → Option ℕ
looked fs ring i q = cond (eqb (q % 2) 1) (Some q) (tested fs ring i q)

-- the notes where place i is no ear, with the note q, and the search goes on as `later`; or where it is one, and the search ends
unfoldable pub note_down : (List ℕ → List ℕ) → List ℕ → ℕ → Option ℕ → List ℕ
note_down later why i None = why
note_down later why i (Some q) = later (set why i q)

-- the notes after a search for an ear among the m places from place i on
unfoldable pub searched : List Flat → List ℕ → ℕ → ℕ → List ℕ → List ℕ
searched fs ring zero i why = why
searched fs ring (suc m) i why = note_down (λ w. searched fs ring m (suc i) w) why i (looked fs ring i (get_or why i 0))

-- the test of a corner by the corner's place
unfoldable pub behind : Option ℕ → Option ℕ
behind (Some k) = Some (k + 1)
behind None = None
