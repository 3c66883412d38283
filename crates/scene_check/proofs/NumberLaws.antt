-- The numbers that end a record. Assumes nothing.
use mathlib.Core.Path.{◌≡◌, ap, ◌∙◌}
use mathlib.Core.Bool.{Bool, true, false, ◌&&◌}
use mathlib.Core.List.{List}
use Prim.Native.Nat.{ℕ, ◌+◌, ◌-◌, ◌*◌, ◌≤◌, ◌<◌}
use native.Mathlib.Omega.{arith}
use borrow.Author.Tests.{lt-ltb, le-ltb}
use Rattle.lists.specs.Loops.{sum_of}
use Rattle.object.specs.declared.Extent.{Extent}
use Rattle.object.specs.declared.Section.{Section}
use Rattle.object.specs.Object.{Shape, solid, outline, Object}
use Rattle.scene_field.specs.Layout.{most_corners, most_sections, corner_bytes, section_bytes, position_bytes, orientation_bytes, orientation_from, sizes_from}
use Rattle.scene_field.specs.Fields.{u16_at, point_at, orientation_at, corners_at, sections_at, holes_at, all32, all64}
use Rattle.std.specs.Prelude.{Result}
use Rattle.refusal.specs.declared.Refusal.{Refusal}
use Rattle.refusal.specs.declared.Refusal.TheVariants.{Past, Numbers}
use Rattle.scene.specs.Scene.{bad, good, rest, solid_at, outline_corners, sweep_at}
use Rattle.scene.specs.Contract.Answers.{end_of}

module _ (e i n : ℕ) (allowed : Bool) (o : Object) where
  pub rest_past : e - i < n → bad Past ≡ rest e i n allowed o
  unfolding rest
  rest_past h = rw (lt-ltb e (i + n) (omega arith))

  pub rest_numbers : i ≤ e → n ≤ e - i → allowed ≡ false → bad Numbers ≡ rest e i n allowed o
  unfolding rest
  rest_numbers l h a = rw (le-ltb e (i + n) (omega arith), a)

  pub rest_good : i ≤ e → n ≤ e - i → allowed ≡ true → good o (i + n) ≡ rest e i n allowed o
  unfolding rest
  rest_good l h a = rw (le-ltb e (i + n) (omega arith), a)

module _ (s : List ℕ) (e id i w : ℕ) (x : Extent) (l : i ≤ e) (h : position_bytes + orientation_bytes + 4 * w ≤ e - i) where
  pub solid_numbers : all32 s 3 i && all64 s 6 (orientation_from i) && all32 s w (sizes_from i) ≡ false → bad Numbers ≡ solid_at s e id i w x
  unfolding solid_at
  solid_numbers a = rest_numbers e i (position_bytes + orientation_bytes + 4 * w) _ _ l h a

  pub solid_allowed : all32 s 3 i && all64 s 6 (orientation_from i) && all32 s w (sizes_from i) ≡ true → good (record { id = id; shape = solid (point_at s i) (orientation_at s (orientation_from i)) x }) (i + (position_bytes + orientation_bytes + 4 * w)) ≡ solid_at s e id i w x
  unfolding solid_at
  solid_allowed a = rest_good e i (position_bytes + orientation_bytes + 4 * w) _ _ l h a

module _ (s : List ℕ) (e id : ℕ) (closed : Bool) (c : ℕ) (counts : List ℕ) (i n : ℕ) (total : n ≡ c + sum_of (λ k. k) counts) (few : n ≤ most_corners) where
  listed : rest e i (4 * (6 * n)) (all32 s (6 * n) i) (record { id = id; shape = outline closed (corners_at s c i) (holes_at s counts (i + corner_bytes * c)) }) ≡ outline_corners s e id closed c counts i
  unfolding outline_corners
  listed = let z : 4 * (6 * n) ≡ corner_bytes * n = omega arith in rw (← total, le-ltb most_corners n few, z)

  pub corners_rest : {r : Result ℕ Refusal} → ((o : Object) → r ≡ end_of (rest e i (4 * (6 * n)) (all32 s (6 * n) i) o)) → r ≡ end_of (outline_corners s e id closed c counts i)
  corners_rest f = f _ ∙ ap end_of listed

module _ (s : List ℕ) (e id : ℕ) (shape : List Section → Shape) (i n : ℕ) (is : n ≡ u16_at s i) (l : i ≤ e) (f : 2 ≤ e - i) (few : n ≤ most_sections) where
  swept : rest e (i + 2) (4 * (12 * n)) (all32 s (12 * n) (i + 2)) (record { id = id; shape = shape (sections_at s n (i + 2)) }) ≡ sweep_at s e id shape i
  unfolding sweep_at
  swept = let z : 4 * (12 * n) ≡ section_bytes * n = omega arith in rw (← is, le-ltb e (i + 2) (omega arith), le-ltb most_sections n few, z)

  pub sweep_rest : {r : Result ℕ Refusal} → ((o : Object) → r ≡ end_of (rest e (i + 2) (4 * (12 * n)) (all32 s (12 * n) (i + 2)) o)) → r ≡ end_of (sweep_at s e id shape i)
  sweep_rest g = g _ ∙ ap end_of swept
