-- The holes as the code goes through them: by their numbers, from the corner counts of the outline. Definitions only.
use Rattle.std.specs.Prelude.{ℕ, suc, ◌+◌, ◌<◌, ◌≤◌, ◌^◌, Bool, cond, List, [], ◌∷◌, map, length, get_or, take, Float}
use Rattle.lists.specs.Loops.{fold, list, sum_of, over}
use Rattle.lid.specs.declared.Flat.{Flat}
use Rattle.lid.specs.Log.{Entry, entry}
use Rattle.lid.specs.Rings.{Hole, turn_hole, too_small, right}
use Rattle.lid.specs.Contract.Written.{corner_total}

-- the number of hole g's first corner
unfoldable pub hole_start : ℕ → List ℕ → ℕ → ℕ
hole_start outer counts g = outer + sum_of (λ n. n) (take g counts)

-- hole g's corners as in the record; turned, they are its ring
unfoldable pub hole_corners : ℕ → List ℕ → ℕ → List ℕ
hole_corners outer counts g = list (λ i. i) (get_or counts g 0) (hole_start outer counts g)

abbrev pub hole_ring : List Flat → ℕ → List ℕ → ℕ → List ℕ
hole_ring fs outer counts g = turn_hole fs (hole_corners outer counts g)

-- there is a hole g, its corners have numbers, and the buffer has room for them
abbrev pub HoleFits : ℕ → List ℕ → List ℕ → ℕ → Type 0
HoleFits outer counts hole g = (g < length counts) × (corner_total outer counts < 2 ^ 32) × (get_or counts g 0 ≤ length hole)

-- the hole, and those of several numbers
abbrev pub hole_at : List Flat → ℕ → List ℕ → ℕ → Hole
hole_at fs outer counts g = record { number = g; ring = hole_ring fs outer counts g }

abbrev pub holes_numbered : List Flat → ℕ → List ℕ → List ℕ → List Hole
holes_numbered fs outer counts gs = map (hole_at fs outer counts) gs

-- each hole's greatest first coordinate, and whether it is skipped
abbrev pub rights_of : List Flat → ℕ → List ℕ → List Float
rights_of fs outer counts = list (λ g. right fs (hole_ring fs outer counts g)) (length counts) 0

abbrev pub small_of : List Flat → ℕ → List ℕ → List Bool
small_of fs outer counts = list (λ g. too_small fs (hole_corners outer counts g)) (length counts) 0

-- a buffer to whose front the holes of some numbers were written, one after the other; all holes
abbrev pub holes_over : List Flat → ℕ → List ℕ → List ℕ → List ℕ → List ℕ
holes_over fs outer counts gs hole = fold (λ (h : List ℕ) (g : ℕ). over (hole_ring fs outer counts g) h) hole gs

abbrev pub all_holes_over : List Flat → ℕ → List ℕ → List ℕ → List ℕ
all_holes_over fs outer counts hole = holes_over fs outer counts (list (λ g. g) (length counts) 0) hole

-- an entry for each hole that is skipped, from hole g on
unfoldable pub skips : ℕ → List Bool → List Entry
skips g [] = []
skips g (small ∷ more) = let later = skips (suc g) more in cond small (entry 6 g 0 0 ∷ later) later

-- the entries of all that are
abbrev pub all_skips : List Flat → ℕ → List ℕ → List Entry
all_skips fs outer counts = skips 0 (small_of fs outer counts)

-- hole g can be joined: it has corners, and they have room in a buffer
abbrev pub Joinable : List ℕ → ℕ → ℕ → Type 0
Joinable counts room g = (g < length counts) × (0 < get_or counts g 0) × (get_or counts g 0 ≤ room)
