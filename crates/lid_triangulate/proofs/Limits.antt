-- A lid within the limits of document 01, section 1: at most 576 places, 608 entries and 576 triangles; and what its buffers hold where they have
-- room. Assumes nothing.
use mathlib.Core.Path.{◌≡◌, refl, ap, ◌∙◌}
use mathlib.Core.Bool.{Bool, true, false, ◌&&◌, cond}
use mathlib.Core.List.{List, [], ◌∷◌, ◌++◌}
use Prim.Native.Nat.{ℕ, ◌*◌, ◌≤◌}
use native.Mathlib.Nat.{zero-add}
use native.Mathlib.Omega.{arith}
use lib.ListN.{length, get_or, drop, length-append}
use lib.Dec.{eqb}
use lib.Ieee.{lt}
use lib.Seq.{sets, sets-eq}
use borrow.Author.Tests.{eqb-true}
use Rattle.lists.specs.Loops.{list, over}
use Rattle.lists.proofs.Lists.{join_size}
use Rattle.lists.proofs.Loops.{either}
use Rattle.float.specs.Number.{zerof}
use Rattle.object.specs.Limits.{most_holes, most_corners}
use Rattle.face_triangle.specs.Triangles.{Triangle, triangle}
use Rattle.lid.specs.declared.Flat.{Flat}
use Rattle.lid.specs.Log.{Entry, entry, entry_record, log_numbers, Logged}
use Rattle.lid.specs.Rings.{turn_of, too_small, rings_from, skipped_from}
use Rattle.lid.specs.Clipping.{clip}
use Rattle.lid.specs.Lid.{Lid, ears_of, last_triangle, lid_from, lid_rings, lid_of}
use Rattle.lid.specs.Contract.Written.{triangle_record, triangle_numbers, log_with, triangles_with, corner_total}
use Rattle.lid.proofs.Facts.{joined_all, ring_size, open_size, clip_size}
use Rattle.lid_cut.proofs.CutLaws.{ears_few}
use Rattle.lid_triangulate.proofs.OrderLaws.{sum_two}

-- ---- sizes

last_few : (fs : List Flat) (ring : List ℕ) → length (last_triangle fs ring) ≤ length ring
unfolding last_triangle
last_few fs ring = go (eqb (length ring) 3) (lt zerof (turn_of fs (get_or ring 0 0) (get_or ring 1 0) (get_or ring 2 0))) refl (triangle (get_or ring 0 0) (get_or ring 1 0) (get_or ring 2 0))
  where
    go : (three left : Bool) → eqb (length ring) 3 ≡ three → (t : Triangle) → length (cond (three && left) (t ∷ []) []) ≤ length ring
    go true true e t = let n : length ring ≡ 3 = eqb-true _ _ e in omega arith
    go true false e t = omega arith
    go false left e t = omega arith

triangles_few : (fs : List Flat) (skipped : List Entry) (j : Logged) → length (lid_from fs skipped j).triangles ≤ length j.ring
unfolding lid_from
triangles_few fs skipped j =
    let k = clip fs (length j.ring) j.ring in
    omega (arith, length-append (ears_of k.log) (last_triangle fs k.ring), ears_few k.log, last_few fs k.ring, clip_size fs (length j.ring) j.ring)

module _ (fs : List Flat) (outer : ℕ) (counts : List ℕ) (corners : corner_total outer counts ≤ most_corners) (holes : length counts ≤ most_holes) where
  pub ring_limit : length (joined_all fs outer counts).ring ≤ 576
  ring_limit = omega (arith, ring_size fs outer counts, sum_two counts)

  pub log_limit : length (lid_of fs outer counts).log ≤ 608
  unfolding lid_of lid_rings
  log_limit =
      either (λ (l : Lid). length l.log ≤ 608) (too_small fs (list (λ i. i) outer 0))
      {x = record { log = entry 7 0 0 0 ∷ []; triangles = [] }} {y = lid_from fs (skipped_from fs 0 (rings_from outer counts)) (joined_all fs outer counts)}
      (omega arith) (omega (arith, open_size fs outer counts, sum_two counts))

  pub triangle_limit : length (lid_of fs outer counts).triangles ≤ 576
  unfolding lid_of lid_rings
  triangle_limit =
      either (λ (l : Lid). length l.triangles ≤ 576) (too_small fs (list (λ i. i) outer 0))
      {x = record { log = entry 7 0 0 0 ∷ []; triangles = [] }} {y = lid_from fs (skipped_from fs 0 (rings_from outer counts)) (joined_all fs outer counts)}
      (omega arith) (omega (arith, triangles_few fs (skipped_from fs 0 (rings_from outer counts)) (joined_all fs outer counts), ring_limit))

-- ---- buffers with room: the numbers written, and what stood behind them

written_over : (buffer written : List ℕ) → length written ≤ length buffer → sets buffer 0 written ≡ over written buffer
unfolding over
written_over buffer written h = sets-eq written buffer 0 (omega arith) ∙ ap (λ (k : ℕ). written ++ drop k buffer) (zero-add (length written))

pub log_over : (log : List ℕ) (es : List Entry) → 4 * length es ≤ length log → log_with log 0 es ≡ over (log_numbers es) log
log_over log es h = written_over log (log_numbers es) (omega (arith, size))
  where
    size : length (log_numbers es) ≡ 4 * length es
    size = unfold log_numbers in join_size entry_record 4 (λ a. refl) es

pub triangles_over : (s : List ℕ) (ts : List Triangle) → 3 * length ts ≤ length s → triangles_with s 0 ts ≡ over (triangle_numbers ts) s
triangles_over s ts h = written_over s (triangle_numbers ts) (omega (arith, size))
  where
    size : length (triangle_numbers ts) ≡ 3 * length ts
    size = unfold triangle_numbers in join_size triangle_record 3 (λ a. refl) ts
