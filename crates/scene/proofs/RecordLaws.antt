-- What the definition of a record gives, by the tests that the program makes on the way. Assumes nothing.
use mathlib.Core.Path.{◌≡◌, refl, ap, ◌∙◌}
use Prim.Native.Nat.{ℕ, zero, suc, ◌+◌, ◌-◌, ◌*◌, ◌≤◌, ◌<◌}
use native.Mathlib.Omega.{arith}
use mathlib.Core.Bool.{Bool, true, false}
use mathlib.Core.List.{List}
use lib.ListN.{length, get_or}
use Rattle.std.specs.Prelude.{Result}
use lib.Dec.{ltb}
use borrow.Author.Tests.{lt-ltb, le-ltb, ne_eqb}
use Rattle.lists.specs.Loops.{list, sum_of}
use Rattle.object.specs.declared.Section.{Section}
use Rattle.object.specs.declared.Extent.{Extent}
use Rattle.object.specs.Object.{Shape}
use Rattle.refusal.specs.declared.Refusal.{Refusal}
use Rattle.refusal.specs.declared.Refusal.TheVariants.{Past, Kind, Counts}
use Rattle.scene_field.specs.Layout.{most_holes, most_corners, most_sections, position_bytes, orientation_bytes}
use Rattle.scene_field.specs.Fields.{u16_at, u32_at, counts_at}
use Rattle.scene.specs.Scene.{Record, bad, rest, solid_at, outline_corners, outline_of, outline_at, sweep_at, kind_at, record_at}
use Rattle.scene.specs.Contract.Answers.{end_of}
use Rattle.scene_field.proofs.Fields.{u16_past}

-- ---- n bytes from place i on, before e

past : (e i n : ℕ) → e - i < n → ltb e (i + n) ≡ true
past e i n h = lt-ltb e (i + n) (omega arith)

room : (e i n : ℕ) → i ≤ e → n ≤ e - i → ltb e (i + n) ≡ false
room e i n l h = le-ltb e (i + n) (omega arith)

-- ---- a solid

module _ (s : List ℕ) (e id i w : ℕ) (x : Extent) where
  pub solid_past : e - i < position_bytes + orientation_bytes + 4 * w → bad Past ≡ solid_at s e id i w x
  unfolding solid_at rest
  solid_past h = rw (past e i (position_bytes + orientation_bytes + 4 * w) h)

-- ---- an outline

pub counts_past : (s : List ℕ) (n i : ℕ) → length s ≤ i → sum_of (λ j. j) (counts_at s n i) ≡ 0
unfolding counts_at sum_of list
counts_past s n i h = zeros n 0
  where
    further : (n i k : ℕ) → n ≤ i → n ≤ i + 2 * k
    further n i k h = omega arith

    zeros : (m k : ℕ) → sum_of (λ j. j) (list (λ k. u16_at s (i + 2 * k)) m k) ≡ 0
    zeros zero k = refl
    zeros (suc m) k = omega (arith, u16_past s (i + 2 * k) (further (length s) i k h), zeros m (suc k))

module _ (s : List ℕ) (e id : ℕ) (closed : Bool) (c : ℕ) (counts : List ℕ) (i n : ℕ) (total : n ≡ c + sum_of (λ k. k) counts) where
  pub corners_many : most_corners < n → bad Counts ≡ outline_corners s e id closed c counts i
  unfolding outline_corners
  corners_many h = rw (← total, lt-ltb most_corners n h)

pub outline_past : (s : List ℕ) (e id : ℕ) (closed : Bool) (i : ℕ) → e - i < 4 → bad Past ≡ outline_at s e id closed i
unfolding outline_at
outline_past s e id closed i h = rw (past e i 4 h)

module _ (s : List ℕ) (e id : ℕ) (closed : Bool) (i outer holes : ℕ) (o : outer ≡ u16_at s i) (h : holes ≡ u16_at s (i + 2)) (l : i ≤ e) (f : 4 ≤ e - i) where
  abbrev hollow : Record
  hollow = outline_of s e id closed outer holes i

  pub outline_many : most_holes < holes → bad Counts ≡ outline_at s e id closed i
  unfolding outline_at
  outline_many m = rw (← h, room e i 4 l f, lt-ltb most_holes holes m)

  pub outline_counts : holes ≤ most_holes → e - i < 4 + 2 * holes → bad Past ≡ outline_at s e id closed i
  unfolding outline_at
  outline_counts m p = rw (← h, room e i 4 l f, le-ltb most_holes holes m, lt-ltb e (i + 4 + 2 * holes) (omega arith))

  listed : holes ≤ most_holes → 4 + 2 * holes ≤ e - i → hollow ≡ outline_at s e id closed i
  unfolding outline_at
  listed m p = rw (← h, ← o, room e i 4 l f, le-ltb most_holes holes m, le-ltb e (i + 4 + 2 * holes) (omega arith))

  pub outline_corners_lem : holes ≤ most_holes → 4 + 2 * holes ≤ e - i → {r : Result ℕ Refusal} → r ≡ end_of hollow → r ≡ end_of (outline_at s e id closed i)
  outline_corners_lem m p q = q ∙ ap end_of (listed m p)

-- ---- a sweep

pub sweep_past : (s : List ℕ) (e id : ℕ) (shape : List Section → Shape) (i : ℕ) → e - i < 2 → bad Past ≡ sweep_at s e id shape i
unfolding sweep_at
sweep_past s e id shape i h = rw (past e i 2 h)

module _ (s : List ℕ) (e id : ℕ) (shape : List Section → Shape) (i n : ℕ) (is : n ≡ u16_at s i) (l : i ≤ e) (f : 2 ≤ e - i) where
  pub sweep_many : most_sections < n → bad Counts ≡ sweep_at s e id shape i
  unfolding sweep_at
  sweep_many m = rw (← is, room e i 2 l f, lt-ltb most_sections n m)

-- ---- by the kind

kind_other : (s : List ℕ) (e id i kind : ℕ) → 6 < kind → bad Kind ≡ kind_at s e id i kind
unfolding kind_at
kind_other s e id i kind h =
    simp (ne_eqb kind 0 (λ q. omega arith), ne_eqb kind 1 (λ q. omega arith), ne_eqb kind 2 (λ q. omega arith), ne_eqb kind 3 (λ q. omega arith), ne_eqb kind 4 (λ q. omega arith), ne_eqb kind 5 (λ q. omega arith), ne_eqb kind 6 (λ q. omega arith))

-- ---- a record

module _ (s : List ℕ) (e i : ℕ) where
  pub record_past : e - i < 5 → bad Past ≡ record_at s e i
  unfolding record_at
  record_past h = rw (past e i 5 h)

  pub record_begun : i ≤ e → 5 ≤ e - i → kind_at s e (u32_at s (i + 1)) (i + 5) (get_or s i 0) ≡ record_at s e i
  unfolding record_at
  record_begun l h = rw (room e i 5 l h)

  pub record_other : i ≤ e → 5 ≤ e - i → 6 < get_or s i 0 → bad Kind ≡ record_at s e i
  record_other l h k = kind_other s e (u32_at s (i + 1)) (i + 5) (get_or s i 0) k ∙ record_begun l h
