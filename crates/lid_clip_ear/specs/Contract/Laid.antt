-- A ring with the flat corners at its places beside it, and the tests of one triangle. Definitions only.
use Rattle.std.specs.Prelude.{◌≡◌, Bool, not, ◌&&◌, List, map, ℕ, ◌+◌, ◌-◌, length, get_or, Option, Float}
use Rattle.std.specs.Float.Ieee.{lt}
use Rattle.std.specs.Float.{nan}
use Rattle.lists.specs.Loops.{first}
use Rattle.float.specs.Number.{zerof}
use Rattle.lid.specs.declared.Flat.{Flat}
use Rattle.lid.specs.Rings.{corner, turn}
use Rattle.lid.specs.Contract.Steps.{clear_by}
use Rattle.lid_clip_ear.specs.declared.laid.Candidate.{Candidate}
use Rattle.lid_clip_ear.specs.declared.laid.LaidRing.{LaidRing}

-- two lists hold the coordinates of the corner at each place of a ring
pub record InRingOrder (fs : List Flat) (ring : List ℕ) (xs ys : List Float) : Type 0 where
  pub first_coordinates : xs ≡ map (λ p. (corner fs p).x) ring
  pub second_coordinates : ys ≡ map (λ p. (corner fs p).y) ring

-- as many of both as the ring has places
abbrev pub Evenly : LaidRing → Type 0
Evenly laid = (length laid.flats.xs.now ≡ length laid.ring.now) × (length laid.flats.ys.now ≡ length laid.ring.now)

-- the corner at place k, by these
abbrev pub flat_at : LaidRing → ℕ → Flat
flat_at laid k = record { x = get_or laid.flats.xs.now k nan; y = get_or laid.flats.ys.now k nan }

-- it does not stand in the way of t; or it does
abbrev pub clear_at : LaidRing → Candidate → ℕ → Bool
clear_at laid t k = clear_by t.corners t.a t.b t.c (get_or laid.ring.now k 0) (flat_at laid k)

abbrev pub blocks_at : LaidRing → Candidate → ℕ → Bool
blocks_at laid t k = not (clear_at laid t k)

-- it lies beyond the diagonal from c to a
abbrev pub beyond_at : LaidRing → Candidate → ℕ → Bool
beyond_at laid t k = lt (turn t.c t.a (flat_at laid k)) zerof

-- four places from k on pass a test
abbrev pub four : (ℕ → Bool) → ℕ → Bool
four p k = p k && p (k + 1) && p (k + 2) && p (k + 3)

-- the first place from `from` on whose corner stands in the way
abbrev pub first_at : LaidRing → Candidate → ℕ → Option ℕ
first_at laid t from = first (blocks_at laid t) (length laid.ring.now - from) from

-- the corners from place `from` up to place k are clear
abbrev pub ClearUpTo : LaidRing → Candidate → ℕ → ℕ → Type 0
ClearUpTo laid t from k = first_at laid t k ≡ first_at laid t from
