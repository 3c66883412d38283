-- A record that the definition does not refuse is the one that its header tells of, its counts within their limits, and it ends before the trailer. Assumes nothing.
use mathlib.Core.Path.{◌≡◌, refl, ◌∙◌, subst}
use Prim.Native.Nat.{ℕ, ◌+◌, ◌-◌, ◌*◌, ◌≤◌}
use native.Mathlib.Omega.{arith}
use mathlib.Core.Bool.{Bool, true, false, not, cond}
use mathlib.Core.List.{List}
use lib.ListN.{get_or}
use lib.Dec.{ltb, eqb}
use borrow.Author.Tests.{ltb-false}
use Rattle.lists.proofs.Loops.{either, either_by}
use Rattle.object.specs.declared.Extent.{Extent}
use Rattle.object.specs.declared.Extent.TheVariants.{Unsized}
use Rattle.object.specs.Object.{Object, sweep, round_sweep}
use Rattle.refusal.specs.declared.Refusal.TheVariants.{Past, Kind, Counts, Numbers}
use Rattle.scene.specs.declared.headers.Body.{Body}
use Rattle.scene.specs.declared.headers.Body.TheVariants.{Solid, Outline, Sweep}
use Rattle.scene_field.specs.Layout.{most_holes, most_corners, most_sections, corner_bytes, section_bytes, position_bytes, orientation_bytes, sizes_from}
use Rattle.scene_field.specs.Fields.{u16_at, u32_at, box_at, cylinder_at, all32}
use Rattle.scene.specs.Scene.{Record, bad, good, rest, solid_at, outline_corners, outline_of, outline_at, sweep_at, kind_at, record_at}
use Rattle.scene.specs.Contract.Headers.{solid_from, corner_count, outline_from, volume_size, body_size, body_at, shape_of, object_of, header_at, Limits}

-- what holds on both sides of a test that is made twice holds of its outcomes
both : {A B : Type 0} (P : A → B → Type 0) (t : Bool) {x y : A} {r q : B} → P x r → P y q → P (cond t x y) (cond t r q)
both P true p q = p
both P false p q = q

module _ (s : List ℕ) (e : ℕ) where
  abbrev object : ℕ → ℕ → Body → Object
  object id i b = record { id = id; shape = shape_of s i b }

  -- what follows the kind and the id begins at place i
  abbrev Described : ℕ → ℕ → Body → Record → Type 0
  Described id i b (bad r) = Unit {0}
  Described id i b (good o next) = (o ≡ object id i b) × (next ≡ i + body_size b) × Limits s i b × (next ≤ e)

  rest_described : (id i at n : ℕ) (a : Bool) (b : Body) → at + n ≡ i + body_size b → Limits s i b → Described id i b (rest e at n a (object id i b))
  unfolding rest
  rest_described id i at n a b q l =
      either_by (Described id i b) (ltb e (at + n)) {x = bad Past} (λ t. tt)
      (λ f. either (Described id i b) (not a) {x = bad Numbers} {y = good (object id i b) (at + n)} tt (refl, q, l, ltb-false e (at + n) f))

  solid_described : (id i w : ℕ) (x : Extent) → 4 * w ≡ volume_size x → Described id i (Solid (solid_from i x)) (solid_at s e id i w x)
  unfolding solid_at
  solid_described id i w x q =
      rest_described id i i (position_bytes + orientation_bytes + 4 * w) _ (Solid (solid_from i x)) (sized i w (volume_size x) q)
      (record { position = refl; orientation = omega arith; sizes = omega arith })
    where
      sized : (i w v : ℕ) → 4 * w ≡ v → i + (position_bytes + orientation_bytes + 4 * w) ≡ i + (sizes_from i - i + v)
      sized i w v q = omega arith

  corners_described : (id : ℕ) (closed : Bool) (i c holes : ℕ) → holes ≤ most_holes
      → Described id i (Outline closed c holes (corner_count s i c holes)) (outline_of s e id closed c holes i)
  unfolding outline_corners
  corners_described id closed i c holes h =
      let n = corner_count s i c holes in
      either_by (Described id i (Outline closed c holes n)) (ltb most_corners n) {x = bad Counts} (λ t. tt)
      (λ f. rest_described id i (i + 4 + 2 * holes) (corner_bytes * n) _ (Outline closed c holes n) (sized i holes n) (record { total = refl; few = h; most = ltb-false most_corners n f }))
    where
      sized : (i holes n : ℕ) → i + 4 + 2 * holes + corner_bytes * n ≡ i + (4 + 2 * holes + corner_bytes * n)
      sized i holes n = omega arith

  outline_described : (id : ℕ) (closed : Bool) (i : ℕ) → Described id i (outline_from s i closed) (outline_at s e id closed i)
  unfolding outline_at
  outline_described id closed i =
      let holes = u16_at s (i + 2) in
      let P = Described id i (outline_from s i closed) in
      either P (ltb e (i + 4)) {x = bad Past} tt
      (either_by P (ltb most_holes holes) {x = bad Counts} (λ t. tt)
      (λ f. either P (ltb e (i + 4 + 2 * holes)) {x = bad Past} tt (corners_described id closed i (u16_at s i) holes (ltb-false most_holes holes f))))

  sweep_described : (id : ℕ) (round : Bool) (i : ℕ) → Described id i (Sweep round (u16_at s i)) (sweep_at s e id (λ ss. cond round (round_sweep ss) (sweep ss)) i)
  unfolding sweep_at
  sweep_described id round i =
      let n = u16_at s i in
      let P = Described id i (Sweep round n) in
      either P (ltb e (i + 2)) {x = bad Past} tt
      (either_by P (ltb most_sections n) {x = bad Counts} (λ t. tt)
      (λ f. rest_described id i (i + 2) (section_bytes * n) (all32 s (12 * n) (i + 2)) (Sweep round n) (sized i n) (ltb-false most_sections n f)))
    where
      sized : (i n : ℕ) → i + 2 + section_bytes * n ≡ i + (2 + section_bytes * n)
      sized i n = omega arith

  kind_described : (id i kind : ℕ) → Described id i (body_at s i kind) (kind_at s e id i kind)
  unfolding kind_at body_at
  kind_described id i kind =
      both (Described id i) (eqb kind 0) (solid_described id i 0 Unsized refl)
      (both (Described id i) (eqb kind 1) (solid_described id i 3 (box_at s (sizes_from i)) refl)
      (both (Described id i) (eqb kind 2) (solid_described id i 2 (cylinder_at s (sizes_from i)) refl)
      (both (Described id i) (eqb kind 3) (outline_described id false i)
      (both (Described id i) (eqb kind 4) (outline_described id true i)
      (both (Described id i) (eqb kind 5) (sweep_described id false i)
      (either (Described id i (Sweep true (u16_at s i))) (eqb kind 6) {y = bad Kind} (sweep_described id true i) tt))))))

  record_described : (i : ℕ) → Described (u32_at s (i + 1)) (i + 5) (body_at s (i + 5) (get_or s i 0)) (record_at s e i)
  unfolding record_at
  record_described i = either (Described (u32_at s (i + 1)) (i + 5) (body_at s (i + 5) (get_or s i 0))) (ltb e (i + 5)) {x = bad Past} tt (kind_described (u32_at s (i + 1)) (i + 5) (get_or s i 0))

-- the record at place i, which ends at `next` and holds the object o
pub record Read (s : List ℕ) (e i : ℕ) (o : Object) (next : ℕ) : Type 0 where
  pub object : o ≡ object_of s i (header_at s i)
  pub ends : next ≡ i + (header_at s i).size
  pub limits : Limits s (i + 5) (header_at s i).body
  pub inside : next ≤ e

pub read : (s : List ℕ) (e i : ℕ) (o : Object) (next : ℕ) → record_at s e i ≡ good o next → Read s e i o next
unfolding header_at
read s e i o next q =
    let d = subst (Described s e (u32_at s (i + 1)) (i + 5) (body_at s (i + 5) (get_or s i 0))) q (record_described s e i) in
    record { object = d.0; ends = d.1 ∙ grow i (body_size (body_at s (i + 5) (get_or s i 0))); limits = d.2; inside = d.3 }
  where
    grow : (i m : ℕ) → i + 5 + m ≡ i + (5 + m)
    grow i m = omega arith
