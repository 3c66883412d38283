-- A ring that is being clipped, with what is held beside it, and what a step of clipping does to them. Definitions only.
use Rattle.std.specs.Prelude.{◌≡◌, cond, List, [], ◌∷◌, ◌++◌, ℕ, ◌+◌, ◌≤◌, length, take, drop, eqb, ltb, Option, None, Some, Float}
use Rattle.lists.specs.Loops.{remove_at}
use Rattle.lists.specs.Slices.{Slice}
use Rattle.lid.specs.declared.Flat.{Flat}
use Rattle.lid.specs.declared.Corners.{Corners}
use Rattle.lid.specs.declared.Cut.{Cut}
use Rattle.lid.specs.Marks.{mark_number}
use Rattle.lid.specs.Log.{Entry, entry}
use Rattle.lid.specs.Lid.{ears_of}
use Rattle.lid.specs.Contract.Written.{log_with, triangles_with}
use Rattle.lid.specs.Clipping.{clip_step}
use Rattle.lid.specs.Contract.Steps.{Cuts}
use Rattle.lid_clip_ear.specs.Contract.Ears.{Known}
use Rattle.lid_clip_ear.specs.Contract.Laid.{InRingOrder}
use Rattle.lid_clip_ear.specs.Contract.Notes.{NoneFrom}
use Rattle.lid_clip.specs.declared.Stepped.{Stepped}

-- beside a ring are held its corners' coordinates in ring order, and notes that hold, none from place `known` on
pub record Held (fs : List Flat) (ring : List ℕ) (rxs rys : List Float) (why : List ℕ) (known : ℕ) : Type 0 where
  pub in_order : InRingOrder fs ring rxs rys
  pub long : length why ≡ length ring
  pub notes : Known fs ring why
  pub none : NoneFrom known why
  pub near : known ≤ length ring

-- the place from which on there is no note, where a step cuts off the corner at place i of n under a mark
unfoldable pub known_after : ℕ → ℕ → ℕ → ℕ → ℕ
known_after n known mark i = cond (eqb mark 1) (cond (ltb i known) known (i + 1)) n

-- the corner at place i was taken out of a ring and of its coordinates: the others are the last ones, and the first place is as it was
abbrev pub PlaceRemoved : ℕ → Slice ℕ → Slice Float → Slice Float → Type 0
PlaceRemoved i ring rxs rys =
    (ring.exit.now ≡ take 1 ring.entry.now ++ remove_at i ring.entry.now)
    × (rxs.exit.now ≡ take 1 rxs.entry.now ++ remove_at i rxs.entry.now)
    × (rys.exit.now ≡ take 1 rys.entry.now ++ remove_at i rys.entry.now)

-- the entry of the corners t under a mark
abbrev pub entry_of : ℕ → Corners → Entry
entry_of mark t = entry mark t.a.0 t.b.0 t.c.0

-- it was written, as entry n, and its triangle, if it is an ear, behind `count` others
abbrev pub CutWritten : ℕ → Corners → Slice ℕ → ℕ → Slice ℕ → ℕ → ℕ → Type 0
CutWritten mark t log n triangles count r =
    (log.exit.now ≡ log_with log.entry.now n (entry_of mark t ∷ []))
    × (triangles.exit.now ≡ triangles_with triangles.entry.now count (ears_of (entry_of mark t ∷ [])))
    × (r ≡ count + length (ears_of (entry_of mark t ∷ [])))

-- a step of clipping was taken: the corner was cut off, and the ring that is left, behind the first place, is held as before; or nothing was done
abbrev pub Takes : List Flat → Option Cut → List ℕ → List ℕ → List Float → List Float → List ℕ → List ℕ → List ℕ → ℕ → List ℕ → List ℕ → ℕ → Option Stepped → Type 0
Takes fs (Some cut) ring ring' rxs' rys' why' log log' n triangles triangles' count (Some r) =
    Cuts (mark_number cut.mark) ring cut.place.0 ring' log log' n triangles triangles' count r.triangles
    × Held fs (drop 1 ring') (drop 1 rxs') (drop 1 rys') (drop 1 why') r.known
Takes fs None ring ring' rxs' rys' why' log log' n triangles triangles' count None = (ring' ≡ ring) × (log' ≡ log) × (triangles' ≡ triangles)
Takes fs (Some cut) ring ring' rxs' rys' why' log log' n triangles triangles' count None = ⊥
Takes fs None ring ring' rxs' rys' why' log log' n triangles triangles' count (Some r) = ⊥

-- the same of the lent slices
abbrev pub StepTaken : List Flat → Slice ℕ → Slice Float → Slice Float → Slice ℕ → Slice ℕ → ℕ → Slice ℕ → ℕ → Option Stepped → Type 0
StepTaken fs ring rxs rys why log n triangles count r =
    Takes fs (clip_step fs ring.entry.now) ring.entry.now ring.exit.now rxs.exit.now rys.exit.now why.exit.now
    log.entry.now log.exit.now n triangles.entry.now triangles.exit.now count r
