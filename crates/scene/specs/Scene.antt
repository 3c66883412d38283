-- Document 01, sections 1 and 2: a scene's bytes, as a list of objects or as the refusal that is met first.
use Rattle.std.specs.Prelude.{ℕ, zero, suc, ◌+◌, ◌-◌, ◌*◌, Bool, true, false, not, ◌&&◌, ◌||◌, cond, List, [], ◌∷◌, length, get_or, ltb, eqb}
use Rattle.lists.specs.Loops.{sum_of}
use Rattle.object.specs.declared.Extent.{Extent}
use Rattle.object.specs.declared.Extent.TheVariants.{Unsized}
use Rattle.object.specs.declared.Section.{Section}
use Rattle.scene_field.specs.Layout.{most_bytes, most_objects, most_holes, most_corners, most_sections, corner_bytes, section_bytes, position_bytes, orientation_bytes, orientation_from, sizes_from}
use Rattle.scene_field.specs.Fields.{u16_at, u32_at, point_at, orientation_at, box_at, cylinder_at, corners_at, sections_at, counts_at, holes_at, all32, all64}
use Rattle.object.specs.Object.{Shape, solid, outline, sweep, round_sweep, Object}
use Rattle.refusal.specs.declared.Refusal.{Refusal}
use Rattle.refusal.specs.declared.Refusal.TheVariants.{Length, Trailer, Start, Past, Kind, Counts, Numbers}

-- ---- one record

-- a record: the refusal, or the object and the place where the record ends
pub data Record : Type 0 where
  bad : Refusal → Record
  good : Object → ℕ → Record

-- The record's rest, of n bytes from place i on, before the trailer's start e: Past where it passes e, Numbers where one is not allowed.
unfoldable pub rest : ℕ → ℕ → ℕ → Bool → Object → Record
rest e i n allowed o = cond (ltb e (i + n)) (bad Past) (cond (not allowed) (bad Numbers) (good o (i + n)))

-- a solid, its position at place i, with w sizes
unfoldable pub solid_at : List ℕ → ℕ → ℕ → ℕ → ℕ → Extent → Record
solid_at s e id i w x =
    rest e i (position_bytes + orientation_bytes + 4 * w) (all32 s 3 i && all64 s 6 (orientation_from i) && all32 s w (sizes_from i))
    (record { id = id; shape = solid (point_at s i) (orientation_at s (orientation_from i)) x })

-- an outline's corners from place i on: c outer ones, then those of each hole
unfoldable pub outline_corners : List ℕ → ℕ → ℕ → Bool → ℕ → List ℕ → ℕ → Record
outline_corners s e id closed c counts i =
    let n = c + sum_of (λ k. k) counts in
    cond (ltb most_corners n) (bad Counts)
    (rest e i (corner_bytes * n) (all32 s (6 * n) i) (record { id = id; shape = outline closed (corners_at s c i) (holes_at s counts (i + corner_bytes * c)) }))

-- the same by the number of its holes: the outline's counts are at place i, theirs behind the first two, and then the corners
abbrev pub outline_of : List ℕ → ℕ → ℕ → Bool → ℕ → ℕ → ℕ → Record
outline_of s e id closed c holes i = outline_corners s e id closed c (counts_at s holes (i + 4)) (i + 4 + 2 * holes)

-- an outline, its counts at place i
unfoldable pub outline_at : List ℕ → ℕ → ℕ → Bool → ℕ → Record
outline_at s e id closed i =
    let holes = u16_at s (i + 2) in
    cond (ltb e (i + 4)) (bad Past)
    (cond (ltb most_holes holes) (bad Counts)
    (cond (ltb e (i + 4 + 2 * holes)) (bad Past)
    (outline_of s e id closed (u16_at s i) holes i)))

-- a sweep, its count at place i
unfoldable pub sweep_at : List ℕ → ℕ → ℕ → (List Section → Shape) → ℕ → Record
sweep_at s e id shape i =
    let n = u16_at s i in
    cond (ltb e (i + 2)) (bad Past)
    (cond (ltb most_sections n) (bad Counts)
    (rest e (i + 2) (section_bytes * n) (all32 s (12 * n) (i + 2)) (record { id = id; shape = shape (sections_at s n (i + 2)) })))

-- what follows the kind and the id, by the kind
unfoldable pub kind_at : List ℕ → ℕ → ℕ → ℕ → ℕ → Record
kind_at s e id i kind =
    cond (eqb kind 0) (solid_at s e id i 0 Unsized)
    (cond (eqb kind 1) (solid_at s e id i 3 (box_at s (sizes_from i)))
    (cond (eqb kind 2) (solid_at s e id i 2 (cylinder_at s (sizes_from i)))
    (cond (eqb kind 3) (outline_at s e id false i)
    (cond (eqb kind 4) (outline_at s e id true i)
    (cond (eqb kind 5) (sweep_at s e id sweep i)
    (cond (eqb kind 6) (sweep_at s e id round_sweep i)
    (bad Kind)))))))

-- the record at place i, before the trailer's start e
unfoldable pub record_at : List ℕ → ℕ → ℕ → Record
record_at s e i = cond (ltb e (i + 5)) (bad Past) (kind_at s e (u32_at s (i + 1)) (i + 5) (get_or s i 0))

-- ---- the scene

-- the refusal and the object named, or the objects
pub data Scene : Type 0 where
  refused : Refusal → ℕ → Scene
  accepted : List Object → Scene

unfoldable pub prepend : Object → Scene → Scene
prepend o (refused r object) = refused r object
prepend o (accepted os) = accepted (o ∷ os)

-- record number k and those behind it, `later` being those from a place on
unfoldable pub record_then : ℕ → (ℕ → Scene) → Record → Scene
record_then k later (bad r) = refused r k
record_then k later (good o next) = prepend o (later next)

-- The records from number k on, of which n are left, from place i on, with the trailer's start e.
unfoldable pub records_from : List ℕ → ℕ → ℕ → ℕ → ℕ → Scene
records_from s e zero k i = cond (eqb i e) (accepted []) (refused Start k)
records_from s e (suc n) k i =
    let found = record_then k (λ next. records_from s e n (suc k) next) (record_at s e i) in
    cond (eqb (u32_at s (e + 4 * k)) i) found (refused Start k)

-- The trailer's start in a scene of n objects, and how many objects the scene has.
unfoldable pub trailer : List ℕ → ℕ → ℕ
trailer s n = length s - (4 * n + 4)

unfoldable pub count_at : List ℕ → ℕ
count_at s = u32_at s (length s - 4)

unfoldable pub scene : List ℕ → Scene
scene s =
    let n = count_at s in
    cond (ltb (length s) 4 || ltb most_bytes (length s)) (refused Length 0)
    (cond (ltb most_objects n || ltb (length s) (4 * n + 4)) (refused Trailer 0)
    (records_from s (trailer s n) n 0 0))
