-- A ring cut, with its log and its triangles. Assumes nothing.
use mathlib.Core.Path.{◌≡◌, refl, sym, ap, ◌∙◌}
use mathlib.Core.Bool.{Bool, true, false, cond}
use mathlib.Core.List.{List, [], ◌∷◌, map}
use Prim.Native.Nat.{ℕ, suc, ◌+◌, ◌-◌, ◌<◌, ◌≤◌, ◌^◌}
use native.Mathlib.Nat.{le_refl, zero-add}
use native.Mathlib.Omega.{arith}
use lib.ListN.{length, drop, length-append, length-drop, length-map}
use lib.Seq.{take_all}
use lib.Dec.{eqb}
use borrow.Rule.Slice.PartMut.{mid_of}
use Rattle.face_triangle.specs.Triangles.{triangle}
use Rattle.lid.specs.declared.Flat.{Flat}
use Rattle.lid.specs.declared.Clipped.{Clipped}
use Rattle.lid.specs.declared.LidCounts.{LidCounts}
use Rattle.lid.specs.Log.{Entry, entry}
use Rattle.lid.specs.Clipping.{clip}
use Rattle.lid.specs.Lid.{ears_of, last_triangle}
use Rattle.lid.specs.Contract.Written.{log_with, triangles_with, WritesLid}
use Rattle.lid.specs.Contract.Steps.{Clips}
use Rattle.lid_cut.specs.Contract.CutRing.{ring_entries, ring_triangles}
use Rattle.lid.proofs.Facts.{clip_size}
use Rattle.lid_log.proofs.RecordLaws.{log_some, triangles_some}

pub ears_few : (es : List Entry) → length (ears_of es) ≤ length es
unfolding ears_of
ears_few [] = le_refl 0
ears_few (e ∷ es) = go (eqb e.mark 1) (ears_few es)
  where
    go : (b : Bool) → length (ears_of es) ≤ length es → length (cond b (triangle e.a e.b e.c ∷ ears_of es) (ears_of es)) ≤ suc (length es)
    go true h = omega arith
    go false h = omega arith

pub clip_room : (n long : ℕ) → n + long + 1 < 2 ^ 32 → n + long < 2 ^ 32
clip_room n long room = omega arith

-- what `cut_ring` does after `clip`
module _ (fs : List Flat) (ring ring' log log₁ : List ℕ) (n : ℕ) (triangles triangles₁ : List ℕ) (c : Clipped)
    (clipped : Clips (clip fs (length ring) ring) ring' log log₁ n triangles triangles₁ c) where
  left_few : c.left ≤ length ring
  left_few = omega (arith, clipped.size, clip_size fs (length ring) ring)

  entries_few : c.entries + c.left ≡ n + length ring
  entries_few = omega (arith, clipped.size, clipped.counted, clip_size fs (length ring) ring)

  ears_low : c.triangles ≤ length ring
  ears_low = omega (arith, clipped.offered, ears_few (clip fs (length ring) ring).log, clip_size fs (length ring) ring)

  -- the corners left are the last ones of the buffer
  module _ (kept : length ring' ≡ length ring) where
    pub left_in : c.left ≤ length ring'
    left_in = omega (arith, left_few, kept)

    rest_is : mid_of (length ring' - c.left) (length ring' - (length ring' - c.left)) ring' ≡ (clip fs (length ring) ring).ring
    rest_is = take_all (length ring' - (length ring' - c.left)) (drop (length ring' - c.left) ring') (omega (arith, length-drop (length ring' - c.left) ring')) ∙ clipped.remains

    pub rest_room : n + length ring + 1 < 2 ^ 32
        → (c.entries + length (mid_of (length ring' - c.left) (length ring' - (length ring' - c.left)) ring') < 2 ^ 32) × (c.triangles + 1 < 2 ^ 32)
    rest_room room = (omega (arith, entries_few, ap length rest_is, clipped.size, room), omega (arith, ears_low, room))

    pub cut_draws : (log₂ triangles₂ rest : List ℕ) (r : LidCounts) → rest ≡ mid_of (length ring' - c.left) (length ring' - (length ring' - c.left)) ring'
        → (log₂ ≡ log_with log₁ c.entries (map (λ a. entry 3 a 0 0) rest)) × (triangles₂ ≡ triangles_with triangles₁ c.triangles (last_triangle fs rest))
        × (r ≡ record { entries = c.entries + length rest; triangles = c.triangles + length (last_triangle fs rest) })
        → WritesLid (ring_entries (clip fs (length ring) ring)) (ring_triangles fs (clip fs (length ring) ring)) log log₂ n triangles triangles₂ r
    cut_draws log₂ triangles₂ rest r is wrote =
        let k = clip fs (length ring) ring in
        let left : List Entry = map (λ a. entry 3 a 0 0) k.ring in
        let e : rest ≡ k.ring = is ∙ rest_is in
        let w : log₂ ≡ log_with log₁ c.entries left = rw e at wrote.0 in
        let d : triangles₂ ≡ triangles_with triangles₁ c.triangles (last_triangle fs k.ring) = rw e at wrote.1 in
        let o : r ≡ record { entries = c.entries + length k.ring; triangles = c.triangles + length (last_triangle fs k.ring) } = rw e at wrote.2 in
        rw o (record {
          written = w ∙ log_some log log₁ _ n c.entries k.log left clipped.written clipped.counted refl;
          entries = omega (arith, clipped.counted, length-append k.log left, length-map k.ring (λ (a : ℕ). entry 3 a 0 0));
          drawn = d ∙ triangles_some triangles triangles₁ _ 0 c.triangles (ears_of k.log) (last_triangle fs k.ring) clipped.ears (clipped.offered ∙ sym (zero-add (length (ears_of k.log)))) refl;
          offered = omega (arith, clipped.offered, length-append (ears_of k.log) (last_triangle fs k.ring));
        })
