-- Document 01, section 6, and `triangulate`: rings on the flat corners, and the holes in joining order.
-- A corner is a number in the outline's list of corners, outer ones first. A ring is a list of corners; a place is a position in a ring.
use Rattle.std.specs.Prelude.{ℕ, suc, ◌+◌, Bool, ◌||◌, cond, List, [], ◌∷◌, reverse, length, get_or, ltb, Float}
use Rattle.std.specs.Float.Ieee.{lt}
use Rattle.lists.specs.Loops.{next, loop, fold, list}
use Rattle.float.specs.Number.{◌+f◌, ◌-f◌, ◌*f◌, zerof, min_area, minf}
use Rattle.float.specs.Signs.{magnitude, larger, total_less}
use Rattle.lid.specs.declared.Flat.{Flat}
use Rattle.lid.specs.declared.RingPlace.{RingPlace}
use Rattle.lid.specs.Log.{Entry, entry}

-- place i of a ring, by its type
abbrev pub place_of : ℕ → RingPlace
place_of i = record { 0 = i }

abbrev pub flat0 : Flat
flat0 = record { x = zerof; y = zerof }

unfoldable pub corner : List Flat → ℕ → Flat
corner fs i = get_or fs i flat0

-- the turn at b from a to c, rounded as the Rust rounds it
unfoldable pub turn : Flat → Flat → Flat → Float
turn a b c = (b.x -f a.x) *f (c.y -f a.y) -f (b.y -f a.y) *f (c.x -f a.x)

unfoldable pub turn_of : List Flat → ℕ → ℕ → ℕ → Float
turn_of fs a b c = turn (corner fs a) (corner fs b) (corner fs c)

-- a ring's area, rounded as the Rust rounds it: the turns of its fan, added in order
abbrev pub area_step : List Flat → List ℕ → ℕ → Float → Float
area_step fs ring i sum = sum +f turn_of fs (get_or ring 0 0) (get_or ring i 0) (get_or ring (next (length ring) i) 0)

unfoldable pub area : List Flat → List ℕ → Float
area fs ring = loop (area_step fs ring) (length ring) 0 zerof

-- a ring that is skipped, or cuts off the whole lid where it is the outer one
unfoldable pub too_small : List Flat → List ℕ → Bool
too_small fs ring = ltb (length ring) 3 || lt (magnitude (area fs ring)) min_area

-- the outer ring anticlockwise, a hole clockwise
unfoldable pub turn_outer : List Flat → List ℕ → List ℕ
turn_outer fs ring = cond (lt (area fs ring) zerof) (reverse ring) ring

unfoldable pub turn_hole : List Flat → List ℕ → List ℕ
turn_hole fs ring = cond (lt (area fs ring) zerof) ring (reverse ring)

-- the rings of the given corner counts, one behind the other from corner number `from` on
unfoldable pub rings_from : ℕ → List ℕ → List (List ℕ)
rings_from from [] = []
rings_from from (c ∷ cs) = list (λ i. i) c from ∷ rings_from (from + c) cs

-- ---- holes: skipped, turned, and in joining order

-- a hole's number and its ring
pub record Hole : Type 0 where
  pub number : ℕ
  pub ring : List ℕ

-- the holes from number k on that are not skipped, turned; and an entry for each that is
unfoldable pub holes_from : List Flat → ℕ → List (List ℕ) → List Hole
holes_from fs k [] = []
holes_from fs k (r ∷ rs) =
    let more = holes_from fs (suc k) rs in
    cond (too_small fs r) more (record { number = k; ring = turn_hole fs r } ∷ more)

unfoldable pub skipped_from : List Flat → ℕ → List (List ℕ) → List Entry
skipped_from fs k [] = []
skipped_from fs k (r ∷ rs) = let more = skipped_from fs (suc k) rs in cond (too_small fs r) (entry 6 k 0 0 ∷ more) more

-- a hole's greatest first coordinate
abbrev pub right_step : List Flat → Float → ℕ → Float
right_step fs best i = larger best (corner fs i).x

unfoldable pub right : List Flat → List ℕ → Float
right fs ring = fold (right_step fs) minf ring

-- into a list in joining order, behind those as far right or further
unfoldable pub insert : List Flat → Hole → List Hole → List Hole
insert fs h [] = h ∷ []
insert fs h (g ∷ gs) = let later = insert fs h gs in cond (total_less (right fs g.ring) (right fs h.ring)) (h ∷ g ∷ gs) (g ∷ later)

-- the rightmost hole first, of equals the earlier one: a stable sort
unfoldable pub in_order : List Flat → List Hole → List Hole
in_order fs hs = fold (λ sorted h. insert fs h sorted) [] hs
