-- The holes by their numbers: where their corners start, and what is written of each. Assumes nothing.
use mathlib.Core.Path.{◌≡◌, sym, ap, ap₂, ◌∙◌}
use mathlib.Core.Bool.{Bool, false}
use mathlib.Core.List.{List, [], ◌∷◌, ◌++◌}
use Prim.Native.Nat.{ℕ, ◌+◌, ◌<◌, ◌≤◌}
use native.Mathlib.Nat.{add-zero, le_refl}
use native.Mathlib.Numerals.{add-one}
use native.Mathlib.Omega.{arith}
use lib.ListN.{length, get_or, take, drop, take-append-drop}
use lib.Seq.{take-suc, take_all, take_at, drop_at, length-take-le}
use Rattle.lists.specs.Loops.{sum_of, over}
use Rattle.lists.proofs.Lists.{sum_append, length_list}
use Rattle.lid.specs.declared.Flat.{Flat}
use Rattle.lid.specs.Rings.{too_small, turn_hole}
use Rattle.lid.specs.Contract.Written.{corner_total}
use Rattle.lid.specs.Contract.Steps.{turned}
use Rattle.lid_hole.specs.Contract.Holes.{hole_start, hole_corners}
use Rattle.lid.proofs.Areas.Lid.{turn_hole_length}
use Rattle.lists.proofs.Buffers.{over_is, over_front}
use Rattle.lid_ring.proofs.RingLaws.{up}

-- ---- where a hole's corners start

module _ (outer : ℕ) (counts : List ℕ) where
  pub start_first : hole_start outer counts 0 ≡ outer
  unfolding hole_start sum_of
  start_first = add-zero outer

  pub start_next : (k : ℕ) → k < length counts → hole_start outer counts (k + 1) ≡ hole_start outer counts k + get_or counts k 0
  unfolding hole_start sum_of
  start_next k h =
      ap (λ (l : List ℕ). outer + sum_of (λ n. n) l) (ap (λ (n : ℕ). take n counts) (add-one k) ∙ take-suc counts k 0 h)
      ∙ omega (arith, sum_append (λ n. n) (take k counts) (get_or counts k 0 ∷ []))

  pub start_last : hole_start outer counts (length counts) ≡ corner_total outer counts
  unfolding hole_start
  start_last = ap (λ (l : List ℕ). outer + sum_of (λ n. n) l) (take_all (length counts) counts (le_refl (length counts)))

  start_low : (k : ℕ) → hole_start outer counts k ≤ corner_total outer counts
  unfolding hole_start
  start_low k = omega (arith, sum_append (λ n. n) (take k counts) (drop k counts), ap (sum_of (λ n. n)) (take-append-drop k counts))

  pub start_in : (k : ℕ) → k < length counts → hole_start outer counts k + get_or counts k 0 ≤ corner_total outer counts
  start_in k h = omega (arith, start_low (k + 1), start_next k h)

  pub count_low : (k : ℕ) → k < length counts → get_or counts k 0 ≤ sum_of (λ n. n) counts
  unfolding hole_start
  count_low k h = omega (arith, start_in k h)

  -- hole g as `write_hole` leaves it: x stands in the first h places
  module _ (fs : List Flat) (g h from : ℕ) (hole : List ℕ) (size : h ≡ get_or counts g 0) (start : from ≡ hole_start outer counts g) (fits : h ≤ length hole) where
    corners_are : up from (length (take h hole)) ≡ hole_corners outer counts g
    unfolding hole_corners
    corners_are = ap₂ up start (length-take-le h hole fits ∙ size)

    pub hole_small : (r : Bool) → r ≡ too_small fs (up from (length (take h hole))) → r ≡ too_small fs (hole_corners outer counts g)
    hole_small r e = e ∙ ap (too_small fs) corners_are

    pub hole_written : (x : List ℕ) → length x ≡ length (take h hole) → x ≡ turned false fs (up from (length (take h hole)))
        → x ++ drop h hole ≡ over (turn_hole fs (hole_corners outer counts g)) hole
    hole_written x same e =
        let is : x ≡ turn_hole fs (hole_corners outer counts g) = e ∙ ap (turn_hole fs) corners_are in
        let long : length x ≡ h = same ∙ length-take-le h hole fits in
        over_is h (x ++ drop h hole) hole (turn_hole fs (hole_corners outer counts g)) (sym long ∙ ap length is) (take_at x (drop h hole) h long ∙ is) (drop_at x (drop h hole) h long)

pub hole_size : (fs : List Flat) (outer : ℕ) (counts : List ℕ) (g : ℕ) → length (turn_hole fs (hole_corners outer counts g)) ≡ get_or counts g 0
unfolding hole_corners
hole_size fs outer counts g = turn_hole_length fs (hole_corners outer counts g) ∙ length_list (λ i. i) (get_or counts g 0) _

-- its corners are read from the first places of the buffer
pub hole_front : (fs : List Flat) (outer : ℕ) (counts : List ℕ) (g : ℕ) (hole hole' : List ℕ) → hole' ≡ over (turn_hole fs (hole_corners outer counts g)) hole
    → take (get_or counts g 0) hole' ≡ turn_hole fs (hole_corners outer counts g)
hole_front fs outer counts g hole hole' e = over_front (get_or counts g 0) hole' hole (turn_hole fs (hole_corners outer counts g)) (sym (hole_size fs outer counts g)) e
