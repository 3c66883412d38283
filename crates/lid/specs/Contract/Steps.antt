-- What single functions of the code answer, on the way to the lid's definitions. Definitions only.
use Rattle.std.specs.Prelude.{ℕ, ◌+◌, ◌-◌, Bool, ◌||◌, cond, ◌≡◌, List, [], ◌∷◌, ◌++◌, length, get_or, take, drop, eqb, Option, None, Some}
use Rattle.std.specs.Float.Ieee.{lt}
use Rattle.lists.specs.Loops.{remove_at}
use Rattle.lists.specs.Slices.{Slice}
use Rattle.float.specs.Number.{zerof}
use Rattle.float.specs.Signs.{signum}
use Rattle.lid.specs.declared.Flat.{Flat}
use Rattle.lid.specs.declared.CornerNumber.{CornerNumber}
use Rattle.lid.specs.declared.RingPlace.{RingPlace}
use Rattle.lid.specs.declared.Corners.{Corners}
use Rattle.lid.specs.declared.Ray.{Ray}
use Rattle.lid.specs.declared.Clipped.{Clipped}
use Rattle.lid.specs.Log.{Entry, entry, Logged}
use Rattle.lid.specs.Contract.Written.{log_with, triangles_with}
use Rattle.lid.specs.Rings.{corner, turn, turn_outer, turn_hole}
use Rattle.lid.specs.Clipping.{before, here, after, clip_ring}
use Rattle.lid.specs.Lid.{ears_of}

-- a corner by its number's type
abbrev pub corner_of : ℕ → CornerNumber
corner_of i = record { 0 = i }

-- a place that was found, by its number
abbrev pub numbered : Option RingPlace → Option ℕ
numbered (Some p) = Some p.0
numbered None = None

-- the corners before, at and after place i
abbrev pub corners_around : List ℕ → ℕ → Corners
corners_around ring i = record { a = corner_of (before ring i); b = corner_of (here ring i); c = corner_of (after ring i) }

-- `clear` with the flat corners a, b, c, q of the numbers
abbrev pub clear_by : Corners → Flat → Flat → Flat → ℕ → Flat → Bool
clear_by t a b c p q = eqb p t.a.0 || eqb p t.b.0 || eqb p t.c.0 || lt (turn a b q) zerof || lt (turn b c q) zerof || lt (turn c a q) zerof

-- the ray from m that meets at i an edge whose rightmost end stands at place `target`
abbrev pub ray_to : List Flat → List ℕ → Flat → Flat → ℕ → Ray
ray_to fs ring m i target =
    let end = get_or ring target 0 in
    record { m = m; i = i; end = corner_of end; s = signum (turn m i (corner fs end)) }

-- a ring turned as the outer one, or as a hole
abbrev pub turned : Bool → List Flat → List ℕ → List ℕ
turned outer fs ring = cond outer (turn_outer fs ring) (turn_hole fs ring)

-- the entry of the corner at place i, cut off under a mark
abbrev pub cut_entry : ℕ → List ℕ → ℕ → Entry
cut_entry mark ring i = entry mark (before ring i) (here ring i) (after ring i)

-- the corner at place i was cut off: out of the ring, whose others are the last ones of the buffer, its entry into the log, its triangle, if it is an
-- ear, to the triangles
pub record Cuts (mark : ℕ) (ring : List ℕ) (i : ℕ) (ring' log log' : List ℕ) (n : ℕ) (triangles triangles' : List ℕ) (count r : ℕ) : Type 0 where
  pub removed : drop 1 ring' ≡ remove_at i ring
  pub written : log' ≡ log_with log n (cut_entry mark ring i ∷ [])
  pub ears : triangles' ≡ triangles_with triangles count (ears_of (cut_entry mark ring i ∷ []))
  pub offered : r ≡ count + length (ears_of (cut_entry mark ring i ∷ []))

-- the same of the lent slices: it was entry n of the log, and count triangles stood before its own
abbrev pub CornerCut : ℕ → ℕ → Slice ℕ → Slice ℕ → ℕ → Slice ℕ → ℕ → ℕ → Type 0
CornerCut mark i ring log n triangles count r =
    Cuts mark ring.entry.now i ring.exit.now log.entry.now log.exit.now n triangles.entry.now triangles.exit.now count r

-- a ring was clipped to k: its corners left are the last ones of the buffer, its entries stand in the log from entry n on, its ears in
-- the triangles from the first
pub record Clips (k : Logged) (ring' log log' : List ℕ) (n : ℕ) (triangles triangles' : List ℕ) (r : Clipped) : Type 0 where
  pub remains : drop (length ring' - r.left) ring' ≡ k.ring
  pub size : r.left ≡ length k.ring
  pub written : log' ≡ log_with log n k.log
  pub counted : r.entries ≡ n + length k.log
  pub ears : triangles' ≡ triangles_with triangles 0 (ears_of k.log)
  pub offered : r.triangles ≡ length (ears_of k.log)

-- the ring in a lent slice was clipped, in its place
abbrev pub RingClipped : List Flat → Slice ℕ → Slice ℕ → ℕ → Slice ℕ → Clipped → Type 0
RingClipped fs ring log n triangles r =
    Clips (clip_ring fs ring.entry.now) ring.exit.now log.entry.now log.exit.now n triangles.entry.now triangles.exit.now r

-- ---- insertion

unfoldable pub insert_at : ℕ → ℕ → List ℕ → List ℕ
insert_at i v l = take i l ++ v ∷ drop i l

-- a ring without its last n places
abbrev pub but_last : ℕ → List ℕ → List ℕ
but_last n ring = take (length ring - n) ring
