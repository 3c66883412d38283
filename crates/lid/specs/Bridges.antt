-- As `bridge`: how a hole is joined to the ring.
use Rattle.std.specs.Prelude.{ℕ, ◌+◌, Bool, false, not, ◌&&◌, ◌||◌, cond, List, [], ◌∷◌, ◌++◌, length, get_or, take, drop, eqb, Option, None, Some, Float}
use Rattle.std.specs.Bool.{beq}
use Rattle.std.specs.Float.{inf}
use Rattle.std.specs.Float.Ieee.{lt, le, eq, ne}
use Rattle.lists.specs.Loops.{next, previous, loop, first}
use Rattle.float.specs.Number.{◌+f◌, ◌-f◌, ◌*f◌, ◌/f◌, zerof, min_positive}
use Rattle.float.specs.Signs.{magnitude, signum, larger, total_less}
use Rattle.lid.specs.declared.Flat.{Flat}
use Rattle.lid.specs.declared.Hit.{Hit}
use Rattle.lid.specs.declared.Bridge.{Bridge}
use Rattle.lid.specs.declared.Seen.{Seen}
use Rattle.lid.specs.Log.{Entry, entry, Logged, logged}
use Rattle.lid.specs.Rings.{place_of, corner, turn, Hole}

-- the place in the hole of its rightmost corner, the last of equals
abbrev pub rightmost_step : List Flat → List ℕ → ℕ → ℕ → ℕ
rightmost_step fs hole k best = cond (total_less (corner fs (get_or hole k 0)).x (corner fs (get_or hole best 0)).x) best k

unfoldable pub rightmost : List Flat → List ℕ → ℕ
rightmost fs hole = loop (rightmost_step fs hole) (length hole) 0 0

-- the edge from a to b does not meet the line through m along x
unfoldable pub passes : Flat → Flat → Flat → Bool
passes m a b = eq a.y b.y || (beq (lt m.y a.y) (lt m.y b.y) && ne a.y m.y && ne b.y m.y)

-- where the edge from a to b meets that line
unfoldable pub meets : Flat → Flat → Flat → Float
meets m a b = a.x +f (m.y -f a.y) *f (b.x -f a.x) /f (b.y -f a.y)

-- x is no nearer than what was hit before
unfoldable pub no_nearer : Option Hit → Float → Bool
no_nearer None x = false
no_nearer (Some hit) x = le hit.x x

-- the edge from place k to place j, its ends a and b
unfoldable pub hit_edge : Flat → Flat → Flat → ℕ → ℕ → Option Hit → Option Hit
hit_edge m a b k j h =
    let x = meets m a b in
    cond (passes m a b) h (cond (lt x m.x || no_nearer h x) h (Some (record { x = x; end = place_of (cond (lt b.x a.x) k j) })))

unfoldable pub hit_at : List Flat → List ℕ → Flat → ℕ → Option Hit → Option Hit
hit_at fs ring m k h =
    let j = next (length ring) k in
    hit_edge m (corner fs (get_or ring k 0)) (corner fs (get_or ring j 0)) k j h

-- where the ray from m toward +x meets the ring first: at which x, and the place of the rightmost end of that edge
unfoldable pub first_hit : List Flat → List ℕ → Flat → Option Hit
first_hit fs ring m = loop (hit_at fs ring m) (length ring) 0 None

-- r lies in the triangle m, i, p, whose turn has the sign s
unfoldable pub inside : Flat → Flat → Flat → Float → Flat → Bool
inside m i p s r = le zerof (turn m i r *f s) && le zerof (turn i p r *f s) && le zerof (turn p m r *f s)

unfoldable pub slope_of : Flat → Flat → Float
slope_of m r = magnitude (r.y -f m.y) /f larger (r.x -f m.x) min_positive

-- place k of the ring, where corner c stands, with `end` the corner of the edge that was hit
unfoldable pub seen_at : List Flat → List ℕ → Flat → Flat → ℕ → Float → ℕ → Seen → Seen
seen_at fs ring m i end s k best =
    let c = get_or ring k 0 in
    let r = corner fs c in
    let y = slope_of m r in
    cond (eq s zerof || eqb c end || lt r.x m.x || not (inside m i (corner fs end) s r)) best
    (cond (lt y best.slope) (record { slope = y; place = place_of k }) best)

-- the place that m sees, where the ray hit at i an edge whose rightmost end stands at place `target`
unfoldable pub visible : List Flat → List ℕ → Flat → Flat → ℕ → ℕ
visible fs ring m i target =
    let end = get_or ring target 0 in
    let s = signum (turn m i (corner fs end)) in
    (loop (seen_at fs ring m i end s) (length ring) 0 (record { slope = inf false; place = place_of target })).place.0

-- m sits in the corner at v between a and b
unfoldable pub sits_in : Flat → Flat → Flat → Flat → Bool
sits_in m a v b =
    let l1 = lt zerof (turn a v m) in
    let l2 = lt zerof (turn v b m) in
    cond (le zerof (turn a v b)) (l1 && l2) (l1 || l2)

-- place k is a copy of corner c that m sits in
unfoldable pub is_copy : List Flat → List ℕ → Flat → ℕ → ℕ → Bool
is_copy fs ring m c k =
    let n = length ring in
    eqb (get_or ring k 0) c && sits_in m (corner fs (get_or ring (previous n k) 0)) (corner fs c) (corner fs (get_or ring (next n k) 0))

unfoldable pub or_else : Option ℕ → ℕ → ℕ
or_else (Some k) d = k
or_else None d = d

-- of the places that hold the corner seen, the first that m sits in, or the one seen where there is none
unfoldable pub copy_of : List Flat → List ℕ → Flat → ℕ → ℕ
copy_of fs ring m target = or_else (first (is_copy fs ring m (get_or ring target 0)) (length ring) 0) target

-- a hole is joined at a place of the ring and a place of the hole, or stays apart where its ray meets nothing
unfoldable pub bridge_at : List Flat → List ℕ → Flat → ℕ → Option Hit → Option Bridge
bridge_at fs ring m j None = None
bridge_at fs ring m j (Some hit) =
    Some (record { place = place_of (copy_of fs ring m (visible fs ring m (record { x = hit.x; y = m.y }) hit.end.0)); from = place_of j })

unfoldable pub bridge : List Flat → List ℕ → List ℕ → Option Bridge
bridge fs ring hole =
    let j = rightmost fs hole in
    let m = corner fs (get_or hole j 0) in
    bridge_at fs ring m j (first_hit fs ring m)

-- the ring with the hole put in behind the place, from its corner j round to j, and the place's corner again
unfoldable pub splice : List ℕ → List ℕ → ℕ → ℕ → List ℕ
splice ring hole place j =
    take (place + 1) ring ++ drop j hole ++ take (j + 1) hole ++ (get_or ring place 0 ∷ drop (place + 1) ring)

unfoldable pub spliced : List ℕ → List ℕ → Option Bridge → List ℕ
spliced ring hole None = ring
spliced ring hole (Some b) = splice ring hole b.place.0 b.from.0

unfoldable pub bridge_entry : ℕ → Option Bridge → Entry
bridge_entry k None = entry 5 k 0 0
bridge_entry k (Some b) = entry 4 k b.place.0 b.from.0

-- the holes joined to the ring one after the other
unfoldable pub join_all : List Flat → List Hole → List ℕ → Logged
join_all fs [] ring = record { ring = ring; log = [] }
join_all fs (h ∷ hs) ring =
    let b = bridge fs ring h.ring in
    logged (bridge_entry h.number b) (join_all fs hs (spliced ring h.ring b))
