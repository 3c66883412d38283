-- How many tests of places ear clipping makes with notes: of the turn of a place, or of one corner against its triangle. Definitions only.
use Rattle.std.specs.Prelude.{Bool, cond, List, ℕ, zero, suc, ◌+◌, ◌-◌, ◌/◌, ◌%◌, length, get_or, set, eqb, leb, Option, None, Some}
use Rattle.lists.specs.Loops.{remove_at}
use Rattle.lid.specs.declared.Flat.{Flat}
use Rattle.lid.specs.declared.Cut.{Cut}
use Rattle.lid.specs.Clipping.{clip_step}
use Rattle.lid_clip_ear.specs.Contract.Notes.{without}
use Rattle.lid_clip_ear.specs.Contract.Ears.{fails, looked, searched}

-- how many tests `first p m k` makes
unfoldable pub calls : (ℕ → Bool) → ℕ → ℕ → ℕ
calls p zero k = 0
calls p (suc m) k = let later = calls p m (suc k) in suc (cond (p k) 0 later)

-- of place i, with note q, as `looked` makes them
unfoldable pub place_tests : List Flat → List ℕ → ℕ → ℕ → ℕ
place_tests fs ring i q = cond (eqb (q % 2) 1) 0 (calls (fails fs ring i) (suc (length ring) - q / 2) (q / 2))

-- of the places behind, where the search goes on
unfoldable pub later_tests : (List ℕ → ℕ) → List ℕ → ℕ → Option ℕ → ℕ
later_tests later why i None = 0
later_tests later why i (Some q) = later (set why i q)

-- of the m places from place i on, as `searched` makes them
unfoldable pub search_tests : List Flat → List ℕ → ℕ → ℕ → List ℕ → ℕ
search_tests fs ring zero i why = 0
search_tests fs ring (suc m) i why =
    let q = get_or why i 0 in
    place_tests fs ring i q + later_tests (λ w. search_tests fs ring m (suc i) w) why i (looked fs ring i q)

-- after a step
unfoldable pub behind_tests : (List ℕ → List ℕ → ℕ) → List ℕ → List ℕ → Option Cut → ℕ
behind_tests later ring why (Some cut) = later (remove_at cut.place.0 ring) (without cut.place.0 why)
behind_tests later ring why None = 0

-- where a ring with notes is clipped, at most n corners cut off, as `clip` of lid does it
unfoldable pub clip_tests : List Flat → ℕ → List ℕ → List ℕ → ℕ
clip_tests fs zero ring why = 0
clip_tests fs (suc n) ring why =
    cond (leb (length ring) 3) 0
    (search_tests fs ring (length ring) 0 why + behind_tests (λ r w. clip_tests fs n r w) ring (searched fs ring (length ring) 0 why) (clip_step fs ring))
