-- As in `triangulate`: ears are cut off and straight corners dropped, until neither is found.
use Rattle.std.specs.Prelude.{ℕ, zero, suc, Bool, ◌&&◌, ◌||◌, cond, List, [], length, get_or, leb, eqb, Option, None, Some}
use Rattle.std.specs.Float.Ieee.{lt}
use Rattle.lists.specs.Loops.{next, previous, first, every, remove_at}
use Rattle.float.specs.Number.{zerof, min_area}
use Rattle.float.specs.Signs.{magnitude}
use Rattle.lid.specs.declared.Flat.{Flat}
use Rattle.lid.specs.declared.Cut.{Cut}
use Rattle.lid.specs.declared.Mark.TheVariants.{Ear, Dropped}
use Rattle.lid.specs.Marks.{mark_number}
use Rattle.lid.specs.Log.{entry, Logged, logged}
use Rattle.lid.specs.Rings.{place_of, turn_of}

-- the corners before, at and after place i
abbrev pub before : List ℕ → ℕ → ℕ
before ring i = get_or ring (previous (length ring) i) 0

abbrev pub here : List ℕ → ℕ → ℕ
here ring i = get_or ring i 0

abbrev pub after : List ℕ → ℕ → ℕ
after ring i = get_or ring (next (length ring) i) 0

-- corner p does not stand in the way of the ear a, b, c
unfoldable pub clear : List Flat → ℕ → ℕ → ℕ → ℕ → Bool
clear fs a b c p = eqb p a || eqb p b || eqb p c || lt (turn_of fs a b p) zerof || lt (turn_of fs b c p) zerof || lt (turn_of fs c a p) zerof

unfoldable pub is_ear : List Flat → List ℕ → ℕ → Bool
is_ear fs ring i =
    let a = before ring i in
    let b = here ring i in
    let c = after ring i in
    lt zerof (turn_of fs a b c) && every (clear fs a b c) ring

unfoldable pub is_straight : List Flat → List ℕ → ℕ → Bool
is_straight fs ring i = lt (magnitude (turn_of fs (before ring i) (here ring i) (after ring i))) min_area

-- what is done to a ring: the corner at a place is cut off, an ear or one that is dropped, or nothing
unfoldable pub cut_straight : Option ℕ → Option Cut
cut_straight (Some i) = Some (record { mark = Dropped; place = place_of i })
cut_straight None = None

-- an ear where there is one, else a straight corner
unfoldable pub cut_ear : List Flat → List ℕ → Option ℕ → Option Cut
cut_ear fs ring (Some i) = Some (record { mark = Ear; place = place_of i })
cut_ear fs ring None = cut_straight (first (is_straight fs ring) (length ring) 0)

unfoldable pub clip_step : List Flat → List ℕ → Option Cut
clip_step fs ring = cond (leb (length ring) 3) None (cut_ear fs ring (first (is_ear fs ring) (length ring) 0))

-- a ring after a step, `later` being what becomes of the ring that a cut leaves
unfoldable pub clip_by : (List ℕ → Logged) → List ℕ → Option Cut → Logged
clip_by later ring (Some cut) =
    let i = cut.place.0 in
    logged (entry (mark_number cut.mark) (before ring i) (here ring i) (after ring i)) (later (remove_at i ring))
clip_by later ring None = record { ring = ring; log = [] }

-- at most n corners are cut off
unfoldable pub clip : List Flat → ℕ → List ℕ → Logged
clip fs zero ring = record { ring = ring; log = [] }
clip fs (suc n) ring = clip_by (λ r. clip fs n r) ring (clip_step fs ring)

-- a ring clipped as far as it goes
abbrev pub clip_ring : List Flat → List ℕ → Logged
clip_ring fs ring = clip fs (length ring) ring
