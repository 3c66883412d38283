-- Document 01, section 6: exact double areas on the flat corners, as whole multiples of 2 ^ -298, and the terms of demand 3.
use Rattle.std.specs.Prelude.{ℕ, ◌*◌, ◌/◌, ◌^◌, ◌≡◌, cond, List, [], ◌∷◌, get_or, ℤ, pos, neg_ℤ, ◌+ℤ◌, ◌-ℤ◌, ◌*ℤ◌, Float}
use Rattle.std.specs.Float.{nan, inf, fin}
use Rattle.std.specs.Float.Ieee.{up, down}
use Rattle.lists.specs.Loops.{list}
use Rattle.lid.specs.declared.Flat.{Flat}
use Rattle.lid.specs.Log.{Entry, is_mark, left_over}
use Rattle.lid.specs.Rings.{corner, rings_from, turn_outer, turn_hole}

-- an f32 in multiples of 2 ^ -149
unfoldable pub whole : Float → ℤ
whole nan = pos 0
whole (inf s) = pos 0
whole (fin s m e) = let n = m * up e * 2 ^ 149 / down e in cond s (neg_ℤ (pos n)) (pos n)

-- (b0 - a0)(c1 - a1) - (b1 - a1)(c0 - a0), without rounding
unfoldable pub exact_turn : Flat → Flat → Flat → ℤ
exact_turn a b c =
    (whole b.x -ℤ whole a.x) *ℤ (whole c.y -ℤ whole a.y) -ℤ (whole b.y -ℤ whole a.y) *ℤ (whole c.x -ℤ whole a.x)

unfoldable pub exact_area : List Flat → ℕ → ℕ → ℕ → ℤ
exact_area fs a b c = exact_turn (corner fs a) (corner fs b) (corner fs c)

-- the fan of a ring from corner a
unfoldable pub fan_area : List Flat → ℕ → List ℕ → ℤ
fan_area fs a [] = pos 0
fan_area fs a (b ∷ []) = pos 0
fan_area fs a (b ∷ c ∷ rest) = exact_area fs a b c +ℤ fan_area fs a (c ∷ rest)

unfoldable pub ring_area : List Flat → List ℕ → ℤ
ring_area fs [] = pos 0
ring_area fs (a ∷ rest) = fan_area fs a rest

-- ---- the terms

unfoldable pub outer_term : List Flat → ℕ → ℤ
outer_term fs c = ring_area fs (turn_outer fs (list (λ i. i) c 0))

-- the holes of the entries marked 4, each as it is turned
unfoldable pub joined_term : List Flat → List (List ℕ) → List Entry → ℤ
joined_term fs holes [] = pos 0
joined_term fs holes (e ∷ es) =
    cond (is_mark 4 e) (ring_area fs (turn_hole fs (get_or holes e.a []))) (pos 0) +ℤ joined_term fs holes es

-- the areas of the entries with a mark
unfoldable pub marked_term : List Flat → ℕ → List Entry → ℤ
marked_term fs m [] = pos 0
marked_term fs m (e ∷ es) = cond (is_mark m e) (exact_area fs e.a e.b e.c) (pos 0) +ℤ marked_term fs m es

unfoldable pub left_term : List Flat → List Entry → ℤ
left_term fs log = ring_area fs (left_over log)

-- outer ring + joined holes = ears + dropped corners + ring left over, for c outer corners, holes of the given counts, and a log
abbrev pub AreasAgree : List Flat → ℕ → List ℕ → List Entry → Type 0
AreasAgree fs c holes log =
    outer_term fs c +ℤ joined_term fs (rings_from c holes) log ≡ marked_term fs 1 log +ℤ marked_term fs 2 log +ℤ left_term fs log
