-- The tests of one place, as the code makes them. Assumes nothing.
use mathlib.Core.Path.{◌≡◌, refl, sym, ap, ap₂, ◌∙◌}
use mathlib.Core.Bool.{Bool, true, false, not, ◌&&◌, ◌||◌}
use mathlib.Core.List.{List, map}
use Prim.Native.Nat.{ℕ, zero, suc, ◌+◌, ◌-◌, ◌/◌, ◌<◌, ◌≤◌}
use native.Mathlib.Nat.{add-zero}
use native.Mathlib.Omega.{arith}
use lib.ListN.{length, get_or, length-map, get_or-map}
use lib.Dec.{eqb, ltb}
use borrow.Author.Tests.{ltb-true, ltb-false}
use lib.Ieee.{Float, lt, nan}
use Rattle.std.specs.Prelude.{Option, Some, None, MatchOption, IsSomeAnd}
use Rattle.lid.specs.declared.RingPlace.{RingPlace}
use Rattle.lists.specs.Loops.{first}
use Rattle.lists.proofs.Lists.{get_d_any}
use Rattle.lists.proofs.Loops.{first_skip}
use Rattle.float.specs.Number.{zerof}
use Rattle.lid.specs.declared.Flat.{Flat}
use Rattle.lid.specs.Rings.{corner, turn, turn_of}
use Rattle.lid.specs.Clipping.{before, here, after, clear}
use Rattle.lid.specs.Contract.Steps.{numbered, corners_around, clear_by}
use Rattle.lid_clip_ear.specs.Contract.Notes.{failed_at}
use Rattle.lid_clip_ear.specs.declared.laid.Candidate.{Candidate}
use Rattle.lid_clip_ear.specs.declared.laid.LaidRing.{LaidRing}
use Rattle.lid_clip_ear.specs.Contract.Ears.{fails, told, tested, behind}
use Rattle.lid_clip_ear.specs.Contract.Laid.{InRingOrder, flat_at, clear_at, blocks_at, beyond_at, four, first_at}
use Rattle.lid_clip_ear.proofs.FirstLaws.{first_behind, first_same}

-- ---- four corners at a time

and_true : (s t : Bool) → (s && t) ≡ true → (s ≡ true) × (t ≡ true)
and_true true t e = (refl, e)
and_true false t e = absurd (let z : ◌≡◌ {A = ℕ} 0 1 = cc in omega arith)

four_all : (p : ℕ → Bool) (k : ℕ) → four p k ≡ true → (j : ℕ) → j < 4 → p (k + j) ≡ true
four_all p k e j h = go j h
  where
    three : ((p k && p (k + 1) && p (k + 2)) ≡ true) × (p (k + 3) ≡ true)
    three = and_true (p k && p (k + 1) && p (k + 2)) (p (k + 3)) e

    two : ((p k && p (k + 1)) ≡ true) × (p (k + 2) ≡ true)
    two = and_true (p k && p (k + 1)) (p (k + 2)) three.0

    go : (j : ℕ) → j < 4 → p (k + j) ≡ true
    go zero h = rw (add-zero k) (and_true (p k) (p (k + 1)) two.0).0
    go (suc zero) h = (and_true (p k) (p (k + 1)) two.0).1
    go (suc (suc zero)) h = two.1
    go (suc (suc (suc zero))) h = three.1
    go (suc (suc (suc (suc j)))) h = absurd (let n : ⊥ = omega arith in n)

or-true : (s t : Bool) → t ≡ true → (s || t) ≡ true
or-true true t e = refl
or-true false t e = e

-- a corner beyond the diagonal is clear
beyond_clear : (laid : LaidRing) (t : Candidate) (k : ℕ) → beyond_at laid t k ≡ true → clear_at laid t k ≡ true
beyond_clear laid t k e =
    let n = t.corners in
    let p = get_or laid.ring.now k 0 in
    let q = flat_at laid k in
    or-true (eqb p n.a.0 || eqb p n.b.0 || eqb p n.c.0 || lt (turn t.a t.b q) zerof || lt (turn t.b t.c q) zerof) (lt (turn t.c t.a q) zerof) e

module _ (laid : LaidRing) (t : Candidate) (k : ℕ) (found : Option ℕ) (h : k + 4 ≤ length laid.ring.now) (so_far : first_at laid t k ≡ found) where
  pass : ((j : ℕ) → j < 4 → clear_at laid t (k + j) ≡ true) → first_at laid t (k + 4) ≡ found
  pass e = first_skip (blocks_at laid t) (length laid.ring.now) 4 k found h (λ j g. ap not (e j g)) so_far

  pub pass_clear : four (clear_at laid t) k ≡ true → first_at laid t (k + 4) ≡ found
  pass_clear e = pass (four_all (clear_at laid t) k e)

  pub pass_beyond : four (beyond_at laid t) k ≡ true → first_at laid t (k + 4) ≡ found
  pass_beyond e = pass (λ j g. beyond_clear laid t (k + j) (four_all (beyond_at laid t) k e j g))

-- a place that was found, mapped to its note
pub told_of : (found : Option RingPlace) (f r : Option ℕ) → MatchOption found (r ≡ None) (λ p. IsSomeAnd r (λ w. w ≡ failed_at (p.0 + 1))) → numbered found ≡ f → r ≡ told (behind f)
unfolding told behind
told_of None f r mapped e = rw (← e) mapped
told_of (Some p) f None mapped e = absurd mapped
told_of (Some p) f (Some w) mapped e = rw (← e, mapped)

-- ---- the corner at a place

flat_is : (fs : List Flat) (laid : LaidRing) (k : ℕ) → InRingOrder fs laid.ring.now laid.flats.xs.now laid.flats.ys.now → k < length laid.ring.now → flat_at laid k ≡ corner fs (get_or laid.ring.now k 0)
flat_is fs laid k o h = ap₂ flat (read (λ p. (corner fs p).x) laid.flats.xs.now o.first_coordinates) (read (λ p. (corner fs p).y) laid.flats.ys.now o.second_coordinates)
  where
    ring : List ℕ
    ring = laid.ring.now

    flat : Float → Float → Flat
    flat x y = record { x = x; y = y }

    read : (f : ℕ → Float) (l : List Float) → l ≡ map f ring → get_or l k nan ≡ f (get_or ring k 0)
    read f l e = ap (λ (r : List Float). get_or r k nan) e ∙ get_d_any (map f ring) k nan (f 0) (omega (arith, length-map ring f)) ∙ get_or-map f ring k 0

pub order_long : (fs : List Flat) (ring : List ℕ) (rxs rys : List Float) → InRingOrder fs ring rxs rys → (length rxs ≡ length ring) × (length rys ≡ length ring)
order_long fs ring rxs rys o = (
  ap length o.first_coordinates ∙ length-map ring (λ p. (corner fs p).x),
  ap length o.second_coordinates ∙ length-map ring (λ p. (corner fs p).y),
)

-- ---- one place

module _ (fs : List Flat) (laid : LaidRing) (order : InRingOrder fs laid.ring.now laid.flats.xs.now laid.flats.ys.now) (i q : ℕ) (t : Candidate) (corners : t.corners ≡ corners_around laid.ring.now i)
    (at_a : t.a ≡ corner fs t.corners.a.0) (at_b : t.b ≡ corner fs t.corners.b.0) (at_c : t.c ≡ corner fs t.corners.c.0) where
  abbrev ring : List ℕ
  ring = laid.ring.now

  turns : (r : Bool) → lt zerof (turn t.a t.b t.c) ≡ r → lt zerof (turn_of fs (before ring i) (here ring i) (after ring i)) ≡ r
  unfolding turn_of
  turns r h = simp (at_a, at_b, at_c, corners) at h

  by_number : (k : ℕ) → fails fs ring i (suc k) ≡ not (clear_by t.corners t.a t.b t.c (get_or ring k 0) (corner fs (get_or ring k 0)))
  unfolding fails turn_of clear
  by_number k = simp (at_a, at_b, at_c, corners)

  same_block : (k : ℕ) → k < length ring → fails fs ring i (suc k) ≡ blocks_at laid t k
  same_block k h = by_number k ∙ ap (λ (f : Flat). not (clear_by t.corners t.a t.b t.c (get_or ring k 0) f)) (sym (flat_is fs laid k order h))

  -- the tests behind test k + 1 are those of the corners from place k on
  from_corner : (m k : ℕ) → (0 < m → k + m ≤ length ring) → first (fails fs ring i) m (suc k) ≡ behind (first (blocks_at laid t) m k)
  from_corner m k fit = first_behind (fails fs ring i) m k ∙ ap behind (first_same _ _ m k (λ l g h. same_block l (let f = fit (omega arith) in omega arith)))

  -- from the test that the note leaves
  tells_on : 1 < q → told (behind (first (blocks_at laid t) (length ring - (q / 2 - 1)) (q / 2 - 1))) ≡ tested fs ring i q
  unfolding tested
  tells_on h =
      let k = q / 2 - 1 in
      let half : q / 2 ≡ suc k = omega arith in
      let all : suc (length ring) - q / 2 ≡ length ring - k = omega arith in
      ap told (sym (ap (λ (m : ℕ). first (fails fs ring i) m (q / 2)) all ∙ ap (first (fails fs ring i) (length ring - k)) half ∙ from_corner (length ring - k) k (λ h. omega arith)))

  -- from the first, where the turn is above 0
  tells_turned : q ≤ 1 → lt zerof (turn t.a t.b t.c) ≡ true → told (behind (first (blocks_at laid t) (length ring - 0) 0)) ≡ tested fs ring i q
  unfolding tested first fails
  tells_turned low h =
      let half : q / 2 ≡ 0 = omega arith in
      let all : suc (length ring) - q / 2 ≡ suc (length ring) = omega arith in
      let each : length ring - 0 ≡ length ring = omega arith in
      let e : first (fails fs ring i) (suc (length ring)) 0 ≡ behind (first (blocks_at laid t) (length ring) 0) = rw (turns true h) (from_corner (length ring) 0 (λ h. omega arith)) in
      rw (all, each, half) (ap told (sym e))

  tells_unturned : q ≤ 1 → lt zerof (turn t.a t.b t.c) ≡ false → Some 1 ≡ tested fs ring i q
  unfolding tested first fails told failed_at
  tells_unturned low h =
      let half : q / 2 ≡ 0 = omega arith in
      let all : suc (length ring) - q / 2 ≡ suc (length ring) = omega arith in
      rw (all, half, turns false h)

  -- where the note says that the turn is above 0, or it is
  pub tells : (r : Float) (k : ℕ) → r ≡ turn t.a t.b t.c → k ≡ q / 2 - 1 → (ltb 1 q || lt zerof r) ≡ true → told (behind (first_at laid t k)) ≡ tested fs ring i q
  tells r k er ek e = go (ltb 1 q) refl
    where
      go : (s : Bool) → ltb 1 q ≡ s → told (behind (first_at laid t k)) ≡ tested fs ring i q
      go true h = rw ek (tells_on (ltb-true 1 q h))
      go false h =
          let low : q ≤ 1 = ltb-false 1 q h in
          let none : k ≡ 0 = omega arith in
          let left : lt zerof (turn t.a t.b t.c) ≡ true = rw (h, er) at e in
          rw none (tells_turned low left)

  pub tells_not : (r : Float) → r ≡ turn t.a t.b t.c → (ltb 1 q || lt zerof r) ≡ false → Some 1 ≡ tested fs ring i q
  tells_not r er e = go (ltb 1 q) refl
    where
      go : (s : Bool) → ltb 1 q ≡ s → Some 1 ≡ tested fs ring i q
      go true h = absurd (let f : true ≡ false = rw h at e in let z : ◌≡◌ {A = ℕ} 0 1 = cc in omega arith)
      go false h =
          let left : lt zerof (turn t.a t.b t.c) ≡ false = rw (h, er) at e in
          tells_unturned (ltb-false 1 q h) left
