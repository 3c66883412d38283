-- The numbers of an accepted scene are within bounds. Assumes nothing.
use mathlib.Core.Path.{◌≡◌, sym, subst}
use Prim.Native.Nat.{ℕ, zero, suc, ◌+◌, ◌*◌, ◌≤◌, ◌<◌, zero-le}
use native.Mathlib.Nat.{mul-le-mul_left}
use native.Mathlib.Omega.{arith}
use mathlib.Core.Bool.{Bool, true, false, ◌&&◌, ◌||◌}
use mathlib.Core.List.{List, [], ◌∷◌}
use lib.ListN.{length, get_or}
use lib.Dec.{T, ltb, eqb, nltb→le}
use lib.Ieee.Fits.{and_l, and_r}
use Rattle.lists.specs.Each.{Each}
use Rattle.lists.specs.Loops.{list, sum_of}
use Rattle.float.specs.Number.{allowed32, allowed64}
use Rattle.object.specs.declared.Extent.{Extent}
use Rattle.object.specs.declared.Extent.TheVariants.{Unsized}
use Rattle.object.specs.declared.Section.{Section}
use Rattle.object.specs.Object.{Shape, sweep, round_sweep, Object}
use Rattle.refusal.specs.declared.Refusal.TheVariants.{Length, Trailer, Start, Past, Kind, Counts, Numbers}
use Rattle.scene_field.specs.Layout.{most_bytes, most_objects, most_holes, most_corners, most_sections, corner_bytes, section_bytes, position_bytes, orientation_bytes, orientation_from, sizes_from}
use Rattle.scene_field.specs.Fields.{u16_at, u32_at, f32_at, f64_at, box_at, cylinder_at, point_at, corner_at, section_at, orientation_at, pair_at, corners_at, sections_at, counts_at, holes_at, all32, all64}
use Rattle.scene.specs.Scene.{Record, bad, good, rest, solid_at, outline_corners, outline_at, sweep_at, kind_at, record_at, Scene, refused, accepted, prepend, record_then, records_from, trailer, count_at, scene}
use Rattle.lists.proofs.Loops.{either, unless}
use Rattle.lists.proofs.Lists.{every_list, each_list}
use Rattle.float.proofs.Allowed.{allowed32_within, allowed64_within}
use Rattle.float.proofs.Within.{Within}
use Rattle.coords.proofs.Near.{NearP}
use Rattle.object.proofs.Near.{NearC, NearS, Paired, NearX, NearShape}
use Rattle.scene.proofs.Parts.{corners_count}

module _ (s : List ℕ) where
  -- n numbers from place i on
  abbrev Block : ℕ → ℕ → Type 0
  Block i n = (k j : ℕ) → k < n → j ≡ i + 4 * k → Within 1 24 (f32_at s j)

  block : (n i : ℕ) → T (all32 s n i) → Block i n
  unfolding all32
  block n i t k j h e = subst (λ (z : ℕ). Within 1 24 (f32_at s z)) (sym e) (allowed32_within (f32_at s (i + 4 * k)) (every_list (λ x. allowed32 x) (λ k. f32_at s (i + 4 * k)) n 0 k t zero-le (start k n h)))
    where
      start : (k n : ℕ) → k < n → k < 0 + n
      start k n h = omega arith

  pair : (n i : ℕ) → T (all64 s n i) → (k j : ℕ) → k < n → j ≡ i + 8 * k → Within 1 0 (f64_at s j)
  unfolding all64
  pair n i t k j h e = subst (λ (z : ℕ). Within 1 0 (f64_at s z)) (sym e) (allowed64_within (f64_at s (i + 8 * k)) (every_list (λ x. allowed64 x) (λ k. f64_at s (i + 8 * k)) n 0 k t zero-le (start k n h)))
    where
      start : (k n : ℕ) → k < n → k < 0 + n
      start k n h = omega arith

  -- a part of a block
  part : (i n a m : ℕ) → Block i n → a + m ≤ n → Block (i + 4 * a) m
  part i n a m b l k j h e = b (a + k) j (omega arith) (omega arith)

  point_near : (i : ℕ) → Block i 3 → NearP 1 24 (point_at s i)
  unfolding point_at
  point_near i b = record { x = b 0 i (omega arith) (omega arith); y = b 1 (i + 4) (omega arith) (omega arith); z = b 2 (i + 8) (omega arith) (omega arith) }

  corner_near : (i : ℕ) → Block i 6 → NearC 1 24 (corner_at s i)
  unfolding corner_at
  corner_near i b = record { base = point_near i (λ k j h e. b k j (omega arith) e); top = point_near (i + 12) (part i 6 3 3 b (omega arith)) }

  section_near : (i : ℕ) → Block i 12 → NearS 1 24 (section_at s i)
  unfolding section_at
  section_near i b = record { left = corner_near i (λ k j h e. b k j (omega arith) e); right = corner_near (i + 24) (part i 12 6 6 b (omega arith)) }

  -- n of them, w numbers each, one behind the other
  run_near : {A : Type 0} (P : A → Type 0) (read : ℕ → A) (w : ℕ) → ((i : ℕ) → Block i w → P (read i)) → (n i : ℕ) → Block i (w * n) → Each P (list (λ k. read (i + 4 * w * k)) n 0)
  run_near P read w near n i b = each_list P (λ k. read (i + 4 * w * k)) n 0 (λ k a h. near (i + 4 * w * k) (λ c j g e. b (w * k + c) j (inside w k c n h g) (moved w i k c j e)))
    where
      inside : (w k c n : ℕ) → k < 0 + n → c < w → w * k + c < w * n
      inside w k c n h g = omega (arith, mul-le-mul_left w h)

      moved : (w i k c j : ℕ) → j ≡ i + 4 * w * k + 4 * c → j ≡ i + 4 * (w * k + c)
      moved w i k c j e = omega arith

  corners_near : (n i : ℕ) → Block i (6 * n) → Each (NearC 1 24) (corners_at s n i)
  unfolding corners_at
  corners_near n i b = run_near (NearC 1 24) (corner_at s) 6 corner_near n i b

  sections_near : (n i : ℕ) → Block i (12 * n) → Each (NearS 1 24) (sections_at s n i)
  unfolding sections_at
  sections_near n i b = run_near (NearS 1 24) (section_at s) 12 section_near n i b

  -- c corners, and n behind them
  first_corners : (i c n : ℕ) → Block i (6 * (c + n)) → Block i (6 * c)
  first_corners i c n b k j h e = b k j (omega arith) e

  later_corners : (i c n : ℕ) → Block i (6 * (c + n)) → Block (i + 24 * c) (6 * n)
  later_corners i c n b k j h e = b (6 * c + k) j (omega arith) (omega arith)

  holes_near : (counts : List ℕ) (i : ℕ) → Block i (6 * sum_of (λ k. k) counts) → Each (Each (NearC 1 24)) (holes_at s counts i)
  unfolding holes_at sum_of
  holes_near [] i b = tt
  holes_near (c ∷ cs) i b = (
    corners_near c i (first_corners i c (sum_of (λ k. k) cs) b),
    holes_near cs (i + 24 * c) (later_corners i c (sum_of (λ k. k) cs) b),
  )

  turn_near : (i : ℕ) → T (all64 s 6 i) → Paired (orientation_at s i)
  unfolding orientation_at pair_at
  turn_near i t =
      let p = pair 6 i t in
      record {
        sh = p 0 i (omega arith) (omega arith);
        ch = p 1 (i + 8) (omega arith) (omega arith);
        sp = p 2 (i + 16) (omega arith) (omega arith);
        cp = p 3 (i + 16 + 8) (omega arith) (omega arith);
        sr = p 4 (i + 32) (omega arith) (omega arith);
        cr = p 5 (i + 32 + 8) (omega arith) (omega arith);
      }

  -- ---- records
  abbrev NearRecord : Record → Type 0
  NearRecord (bad n) = Unit {0}
  NearRecord (good o next) = NearShape o.shape

  rest_near : (e i n : ℕ) (allowed : Bool) (o : Object) → (T allowed → NearShape o.shape) → NearRecord (rest e i n allowed o)
  unfolding rest
  rest_near e i n true o h = either NearRecord (ltb e (i + n)) {x = bad Past} {y = good o (i + n)} tt (h tt)
  rest_near e i n false o h = either NearRecord (ltb e (i + n)) {x = bad Past} {y = bad Numbers} tt tt

  solid_near : (e id i w : ℕ) (x : Extent) → (Block (sizes_from i) w → NearX x) → NearRecord (solid_at s e id i w x)
  unfolding solid_at
  solid_near e id i w x h =
      rest_near e i (position_bytes + orientation_bytes + 4 * w) (all32 s 3 i && all64 s 6 (orientation_from i) && all32 s w (sizes_from i)) _
      (λ t. (
        point_near i (block 3 i (and_l (all32 s 3 i) (all64 s 6 (orientation_from i)) (and_l (all32 s 3 i && all64 s 6 (orientation_from i)) (all32 s w (sizes_from i)) t))),
        turn_near (orientation_from i) (and_r (all32 s 3 i) (all64 s 6 (orientation_from i)) (and_l (all32 s 3 i && all64 s 6 (orientation_from i)) (all32 s w (sizes_from i)) t)),
        h (block w (sizes_from i) (and_r (all32 s 3 i && all64 s 6 (orientation_from i)) (all32 s w (sizes_from i)) t)),
      ))

  outline_corners_near : (e id : ℕ) (closed : Bool) (c : ℕ) (counts : List ℕ) (i : ℕ) → NearRecord (outline_corners s e id closed c counts i)
  unfolding outline_corners
  outline_corners_near e id closed c counts i =
      let m = sum_of (λ k. k) counts in
      let n = c + m in
      unless NearRecord (ltb most_corners n) {x = bad Counts} tt
      (λ few. rest_near e i (corner_bytes * n) (all32 s (6 * n) i) _
      (λ t.
      let b = block (6 * n) i t in (
        corners_near c i (first_corners i c m b),
        holes_near counts (i + 24 * c) (later_corners i c m b),
        subst (λ (k : ℕ). k ≤ most_corners) (sym (corners_count s c i counts (i + 24 * c))) (nltb→le most_corners n few),
      )))

  outline_near : (e id : ℕ) (closed : Bool) (i : ℕ) → NearRecord (outline_at s e id closed i)
  unfolding outline_at
  outline_near e id closed i =
      let holes = u16_at s (i + 2) in
      either NearRecord (ltb e (i + 4)) {x = bad Past} tt
      (either NearRecord (ltb most_holes holes) {x = bad Counts} tt
      (either NearRecord (ltb e (i + 4 + 2 * holes)) {x = bad Past} tt
      (outline_corners_near e id closed (u16_at s i) (counts_at s holes (i + 4)) (i + 4 + 2 * holes))))

  sweep_near : (e id : ℕ) (shape : List Section → Shape) → ((ss : List Section) → Each (NearS 1 24) ss → NearShape (shape ss)) → (i : ℕ) → NearRecord (sweep_at s e id shape i)
  unfolding sweep_at
  sweep_near e id shape h i =
      let n = u16_at s i in
      either NearRecord (ltb e (i + 2)) {x = bad Past} tt
      (either NearRecord (ltb most_sections n) {x = bad Counts} tt
      (rest_near e (i + 2) (section_bytes * n) (all32 s (12 * n) (i + 2)) _ (λ t. h (sections_at s n (i + 2)) (sections_near n (i + 2) (block (12 * n) (i + 2) t)))))

  kind_near : (e id i kind : ℕ) → NearRecord (kind_at s e id i kind)
  unfolding kind_at
  kind_near e id i kind =
      either NearRecord (eqb kind 0) (solid_near e id i 0 Unsized (λ b. tt))
      (either NearRecord (eqb kind 1) (solid_near e id i 3 (box_at s (sizes_from i)) (λ b. (b 0 (sizes_from i) (omega arith) (omega arith), b 1 (sizes_from i + 4) (omega arith) (omega arith), b 2 (sizes_from i + 8) (omega arith) (omega arith))))
      (either NearRecord (eqb kind 2) (solid_near e id i 2 (cylinder_at s (sizes_from i)) (λ b. (b 0 (sizes_from i) (omega arith) (omega arith), b 1 (sizes_from i + 4) (omega arith) (omega arith))))
      (either NearRecord (eqb kind 3) (outline_near e id false i)
      (either NearRecord (eqb kind 4) (outline_near e id true i)
      (either NearRecord (eqb kind 5) (sweep_near e id sweep (λ ss n. n) i)
      (either NearRecord (eqb kind 6) {y = bad Kind} (sweep_near e id round_sweep (λ ss n. n) i) tt))))))

  record_near : (e i : ℕ) → NearRecord (record_at s e i)
  unfolding record_at
  record_near e i = either NearRecord (ltb e (i + 5)) {x = bad Past} tt (kind_near e (u32_at s (i + 1)) (i + 5) (get_or s i 0))

  -- ---- the scene
  abbrev NearScene : Scene → Type 0
  NearScene (refused _ _) = Unit {0}
  NearScene (accepted os) = Each (λ (o : Object). NearShape o.shape) os

  prepend_near : (o : Object) (sc : Scene) → NearShape o.shape → NearScene sc → NearScene (prepend o sc)
  unfolding prepend
  prepend_near o (refused _ _) m n = tt
  prepend_near o (accepted os) m n = (m, n)

  records_near : (e n k i : ℕ) → NearScene (records_from s e n k i)
  unfolding records_from record_then
  records_near e zero k i = either NearScene (eqb i e) {x = accepted []} {y = refused Start k} tt tt
  records_near e (suc n) k i = either NearScene (eqb (u32_at s (e + 4 * k)) i) {y = refused Start k} (go (record_at s e i) (record_near e i) (λ next. records_near e n (suc k) next)) tt
    where
      go : (r : Record) → NearRecord r → ((next : ℕ) → NearScene (records_from s e n (suc k) next)) → NearScene (record_then k (λ next. records_from s e n (suc k) next) r)
      go (bad _) m h = tt
      go (good o next) m h = prepend_near o (records_from s e n (suc k) next) m (h next)

  scene_near : NearScene (scene s)
  unfolding scene
  scene_near =
      let n = count_at s in
      either NearScene (ltb (length s) 4 || ltb most_bytes (length s)) {x = refused Length 0} tt
      (either NearScene (ltb most_objects n || ltb (length s) (4 * n + 4)) {x = refused Trailer 0} tt (records_near (trailer s n) n 0 0))

  pub accepted_near : (os : List Object) → scene s ≡ accepted os → Each (λ (o : Object). NearShape o.shape) os
  accepted_near os e = subst NearScene e scene_near
