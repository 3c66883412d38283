-- Notes of tests: what they say of ears, that they hold after a search, and that they hold on where a corner is removed. Assumes nothing.
use mathlib.Core.Path.{◌≡◌, refl, sym, ap, ◌∙◌}
use mathlib.Core.Bool.{Bool, true, false, cond, ◌&&◌}
use mathlib.Core.List.{List, [], ◌∷◌, map}
use Prim.Native.Nat.{ℕ, zero, suc, ◌+◌, ◌-◌, ◌*◌, ◌/◌, ◌%◌, ◌<◌, ◌≤◌}
use native.Mathlib.Nat.{le_of_suc-le-suc, not-suc-le-zero}
use native.Mathlib.Numerals.{add-one}
use native.Mathlib.Omega.{arith}
use lib.ListN.{length, get_or, set, length-set, length-map, get_or-map}
use lib.Seq.{get_or-set_same, get_or-set_other, set-get_or}
use lib.Dec.{eqb, ltb, leb}
use lib.Ieee.{lt}
use borrow.Author.Tests.{eqb-true, eqb-false, ltb-true, ltb-false, leb-true, leb-false, not-true, not-false, eq-eqb, ne_eqb}
use Rattle.std.specs.Prelude.{Option, Some, None}
use Rattle.lists.specs.Loops.{next, previous, first, every, remove_at}
use Rattle.lists.proofs.Places.{next_inside, next_last, previous_inside, previous_first}
use Rattle.lists.proofs.Lists.{get_d_any}
use Rattle.lists.proofs.Loops.{first_start, first_found, first_next, first_end}
use Rattle.float.specs.Number.{zerof}
use Rattle.lid.specs.declared.Flat.{Flat}
use Rattle.lid.specs.Rings.{turn_of}
use Rattle.lid.specs.Clipping.{before, here, after, clear, is_ear}
use Rattle.lid.proofs.Facts.{remove_at_size}
use Rattle.lid_clip_ear.specs.Contract.Notes.{failed_at, moved, NoneFrom, anew, without}
use Rattle.lid_clip_ear.proofs.NoteLaws.{rem_low, rem_high, Moves, stays, goes_on, falls, moves}
use Rattle.lid_clip_ear.specs.Contract.Ears.{fails, Noted, Known, told, tested, looked, note_down, searched}
use Rattle.lid_clip_ear.proofs.FirstLaws.{Hit, first_hit_lem, first_miss}

-- ---- the tests and the ear

and_false : (s t : Bool) → t ≡ false → (s && t) ≡ false
and_false true t e = e
and_false false t e = refl

every_not : (p : ℕ → Bool) (l : List ℕ) (j : ℕ) → j < length l → p (get_or l j 0) ≡ false → every p l ≡ false
unfolding every
every_not p [] j h f = absurd (not-suc-le-zero h)
every_not p (x ∷ xs) zero h f = rw f
every_not p (x ∷ xs) (suc j) h f = and_false (p x) (every p xs) (every_not p xs j (le_of_suc-le-suc h) f)

every_all : (p : ℕ → Bool) (l : List ℕ) → ((j : ℕ) → j < length l → p (get_or l j 0) ≡ true) → every p l ≡ true
unfolding every
every_all p [] f = refl
every_all p (x ∷ xs) f = rw (f 0 (omega arith)) (every_all p xs (λ j h. f (suc j) (omega arith)))

module _ (fs : List Flat) (ring : List ℕ) (i : ℕ) where
  fails_not_ear : (j : ℕ) → j ≤ length ring → fails fs ring i j ≡ true → is_ear fs ring i ≡ false
  unfolding is_ear fails
  fails_not_ear zero h e =
      let z : lt zerof (turn_of fs (before ring i) (here ring i) (after ring i)) ≡ false = not-true (lt zerof (turn_of fs (before ring i) (here ring i) (after ring i))) e in
      rw z
  fails_not_ear (suc k) h e =
      and_false (lt zerof (turn_of fs (before ring i) (here ring i) (after ring i))) _
      (every_not (clear fs (before ring i) (here ring i) (after ring i)) ring k (omega arith) (not-true (clear fs (before ring i) (here ring i) (after ring i) (get_or ring k 0)) e))

  passes_ear : ((j : ℕ) → j ≤ length ring → fails fs ring i j ≡ false) → is_ear fs ring i ≡ true
  unfolding is_ear fails
  passes_ear f =
      let z : lt zerof (turn_of fs (before ring i) (here ring i) (after ring i)) ≡ true = not-false _ (f 0 (omega arith)) in
      rw z (every_all (clear fs (before ring i) (here ring i) (after ring i)) ring (λ k h. not-false _ (f (suc k) (omega arith))))

  -- nothing is said by 0
  noted_none : Noted fs ring i 0
  noted_none = record { passed = λ j h. absurd (let n : ⊥ = omega arith in n); stopped = λ e. absurd (let n : ⊥ = omega arith in n) }

  module _ (q : ℕ) (known : Noted fs ring i q) where
    stopped_no_ear : q % 2 ≡ 1 → is_ear fs ring i ≡ false
    stopped_no_ear e = let s = known.stopped e in fails_not_ear (q / 2) s.0 s.1

    -- the first test that fails is test j
    module _ (j : ℕ) (h : Hit (fails fs ring i) (suc (length ring) - q / 2) (q / 2) j) where
      hit_noted : Noted fs ring i (failed_at j)
      unfolding failed_at
      hit_noted = go (ltb j 2147483647) refl
        where
          below : (l : ℕ) → l < j → (t : Bool) → ltb l (q / 2) ≡ t → fails fs ring i l ≡ false
          below l b true t = known.passed l (ltb-true l (q / 2) t)
          below l b false t = h.missed l (ltb-false l (q / 2) t) b

          go : (t : Bool) → ltb j 2147483647 ≡ t → Noted fs ring i (cond t (2 * j + 1) 4294967294)
          go true t =
              let half : (2 * j + 1) / 2 ≡ j = omega arith in
              record {
                passed = λ l b. below l (omega arith) (ltb l (q / 2)) refl;
                stopped = λ e. (omega (arith, h.from, h.within), rw half h.hit);
              }
          go false t =
              let far = ltb-false j 2147483647 t in
              record {
                passed = λ l b. below l (omega arith) (ltb l (q / 2)) refl;
                stopped = λ e. absurd (let n : ⊥ = omega arith in n);
              }

      hit_no_ear : is_ear fs ring i ≡ false
      hit_no_ear = fails_not_ear j (omega (arith, h.from, h.within)) h.hit

    -- what is told holds
    tested_ear : tested fs ring i q ≡ None → is_ear fs ring i ≡ true
    unfolding tested told
    tested_ear e = go (first (fails fs ring i) (suc (length ring) - q / 2) (q / 2)) refl e
      where
        go : (f : Option ℕ) → first (fails fs ring i) (suc (length ring) - q / 2) (q / 2) ≡ f → told f ≡ None → is_ear fs ring i ≡ true
        go (Some j) f e = absurd (let z : ◌≡◌ {A = ℕ} 0 1 = cc in omega arith)
        go None f e = passes_ear (λ l b. below l b (ltb l (q / 2)) refl)
          where
            below : (l : ℕ) → l ≤ length ring → (t : Bool) → ltb l (q / 2) ≡ t → fails fs ring i l ≡ false
            below l b true t = known.passed l (ltb-true l (q / 2) t)
            below l b false t = let g = ltb-false l (q / 2) t in first_miss (fails fs ring i) (suc (length ring) - q / 2) (q / 2) f l g (omega arith)

    tested_no : (w : ℕ) → tested fs ring i q ≡ Some w → Noted fs ring i w × (is_ear fs ring i ≡ false)
    unfolding tested told
    tested_no w e = go (first (fails fs ring i) (suc (length ring) - q / 2) (q / 2)) refl e
      where
        go : (f : Option ℕ) → first (fails fs ring i) (suc (length ring) - q / 2) (q / 2) ≡ f → told f ≡ Some w → Noted fs ring i w × (is_ear fs ring i ≡ false)
        go (Some j) f e =
            let h = first_hit_lem (fails fs ring i) (suc (length ring) - q / 2) (q / 2) j f in
            let z : failed_at j ≡ w = cc in
            (rw (← z) (hit_noted j h), hit_no_ear j h)
        go None f e = absurd (let z : ◌≡◌ {A = ℕ} 0 1 = cc in omega arith)

    looked_no : (w : ℕ) → looked fs ring i q ≡ Some w → Noted fs ring i w × (is_ear fs ring i ≡ false)
    unfolding looked
    looked_no w e = go (eqb (q % 2) 1) refl e
      where
        go : (t : Bool) → eqb (q % 2) 1 ≡ t → cond t (Some q) (tested fs ring i q) ≡ Some w → Noted fs ring i w × (is_ear fs ring i ≡ false)
        go true t e = let z : q ≡ w = cc in (rw (← z) known, stopped_no_ear (eqb-true (q % 2) 1 t))
        go false t e = tested_no w e

-- ---- places after a removal

prev_suc : (n k : ℕ) → suc k < n → previous n (suc k) ≡ k
prev_suc n k h = previous_inside n (suc k) (omega arith) h ∙ omega arith

next_suc : (n k : ℕ) → suc k < n → next n k ≡ suc k
next_suc n k h = next_inside n k (omega arith) ∙ add-one k

-- place k of the ring without place i stands at place o of the ring, with the same neighbours
record Same (l : List ℕ) (i k o : ℕ) : Type 0 where
  same_here : here (remove_at i l) k ≡ here l o
  same_before : before (remove_at i l) k ≡ before l o
  same_after : after (remove_at i l) k ≡ after l o

module _ (l : List ℕ) (i : ℕ) (hi : i < length l) where
  long : suc (length (remove_at i l)) ≡ length l
  long = remove_at_size l i hi

  low_before : (k : ℕ) → k < i → (k ≡ next (length l) i → ⊥) → before (remove_at i l) k ≡ before l k
  low_before zero g off =
      let inner : suc i < length l = inside (ltb (suc i) (length l)) refl in
      let x : previous (length (remove_at i l)) 0 ≡ length (remove_at i l) - 1 = previous_first (length (remove_at i l)) (omega (arith, long)) in
      let y : previous (length l) 0 ≡ suc (length (remove_at i l) - 1) = previous_first (length l) (omega arith) ∙ omega (arith, long) in
      ap (λ (n : ℕ). get_or (remove_at i l) n 0) x ∙ rem_high l i (length (remove_at i l) - 1) hi (omega (arith, long)) ∙ ap (λ (n : ℕ). get_or l n 0) (sym y)
    where
      inside : (b : Bool) → ltb (suc i) (length l) ≡ b → suc i < length l
      inside true t = ltb-true _ _ t
      inside false t = let f : length l ≤ suc i = ltb-false _ _ t in absurd (off (sym (next_last (length l) i (omega arith))))
  low_before (suc k) g off =
      ap (λ (n : ℕ). get_or (remove_at i l) n 0) (prev_suc (length (remove_at i l)) k (omega (arith, long))) ∙ rem_low l i k hi (omega arith)
      ∙ ap (λ (n : ℕ). get_or l n 0) (sym (prev_suc (length l) k (omega arith)))

  low_after : (k : ℕ) → k < i → (k ≡ previous (length l) i → ⊥) → after (remove_at i l) k ≡ after l k
  low_after k g off =
      let b : suc k < i = not_neighbour (eqb (suc k) i) refl in
      ap (λ (n : ℕ). get_or (remove_at i l) n 0) (next_suc (length (remove_at i l)) k (omega (arith, long))) ∙ rem_low l i (suc k) hi b
      ∙ ap (λ (n : ℕ). get_or l n 0) (sym (next_suc (length l) k (omega arith)))
    where
      not_neighbour : (b : Bool) → eqb (suc k) i ≡ b → suc k < i
      not_neighbour true t = let e : suc k ≡ i = eqb-true _ _ t in absurd (off (sym (ap (previous (length l)) (sym e) ∙ prev_suc (length l) k (omega arith))))
      not_neighbour false t = let e : (suc k ≡ i → ⊥) = eqb-false _ _ t in omega arith

  low_same : (k : ℕ) → k < i → (k ≡ previous (length l) i → ⊥) → (k ≡ next (length l) i → ⊥) → Same l i k k
  low_same k g p n = record { same_here = rem_low l i k hi g; same_before = low_before k g n; same_after = low_after k g p }

  high_before : (k : ℕ) → suc k < length l → i < k → before (remove_at i l) k ≡ before l (suc k)
  high_before zero hk g = absurd (not-suc-le-zero g)
  high_before (suc k) hk g =
      ap (λ (n : ℕ). get_or (remove_at i l) n 0) (prev_suc (length (remove_at i l)) k (omega (arith, long))) ∙ rem_high l i k hi (omega arith)
      ∙ ap (λ (n : ℕ). get_or l n 0) (sym (prev_suc (length l) (suc k) hk))

  high_after : (k : ℕ) → suc k < length l → i ≤ k → (suc k ≡ previous (length l) i → ⊥) → after (remove_at i l) k ≡ after l (suc k)
  high_after k hk g off = go (eqb (suc (suc k)) (length l)) refl
    where
      first_kept : (i : ℕ) → suc (suc k) ≡ length l → (suc k ≡ previous (length l) i → ⊥) → 0 < i
      first_kept zero e off = absurd (off (sym (previous_first (length l) (omega arith) ∙ omega arith)))
      first_kept (suc i) e off = omega arith

      go : (b : Bool) → eqb (suc (suc k)) (length l) ≡ b → after (remove_at i l) k ≡ after l (suc k)
      go true t =
          let e : suc (suc k) ≡ length l = eqb-true _ _ t in
          ap (λ (n : ℕ). get_or (remove_at i l) n 0) (next_last (length (remove_at i l)) k (omega (arith, long))) ∙ rem_low l i 0 hi (first_kept i e off)
          ∙ ap (λ (n : ℕ). get_or l n 0) (sym (next_last (length l) (suc k) (omega arith)))
      go false t =
          let e : (suc (suc k) ≡ length l → ⊥) = eqb-false _ _ t in
          ap (λ (n : ℕ). get_or (remove_at i l) n 0) (next_suc (length (remove_at i l)) k (omega (arith, long))) ∙ rem_high l i (suc k) hi (omega arith)
          ∙ ap (λ (n : ℕ). get_or l n 0) (sym (next_suc (length l) (suc k) (omega arith)))

  high_same : (k : ℕ) → suc k < length l → i ≤ k → (suc k ≡ previous (length l) i → ⊥) → (suc k ≡ next (length l) i → ⊥) → Same l i k (suc k)
  high_same k hk g p n = record { same_here = rem_high l i k hi g; same_before = high_before k hk apart; same_after = high_after k hk g p }
    where
      apart : i < k
      apart = go (eqb k i) refl
        where
          go : (b : Bool) → eqb k i ≡ b → i < k
          go true t = let e : k ≡ i = eqb-true _ _ t in absurd (n (ap suc e ∙ sym (next_suc (length l) i (omega arith))))
          go false t = let e : (k ≡ i → ⊥) = eqb-false _ _ t in omega arith

  -- the tests of a place with the same neighbours: those of corners behind place i are one lower
  module _ (fs : List Flat) (k o : ℕ) (s : Same l i k o) where
    test_low : (j : ℕ) → j ≤ i → fails fs (remove_at i l) k j ≡ fails fs l o j
    unfolding fails
    test_low zero h = rw (s.same_before, s.same_here, s.same_after)
    test_low (suc p) h = rw (s.same_before, s.same_here, s.same_after, rem_low l i p hi (omega arith))

    test_high : (j : ℕ) → i < j → fails fs (remove_at i l) k j ≡ fails fs l o (suc j)
    unfolding fails
    test_high zero h = absurd (not-suc-le-zero h)
    test_high (suc p) h = rw (s.same_before, s.same_here, s.same_after, rem_high l i p hi (omega arith))

    -- its note holds on, moved
    keep : (q : ℕ) → Noted fs l o q → Noted fs (remove_at i l) k (moved i q)
    keep q n = go (moved i q) (moves (2 * i + 2) q)
      where
        go : (w : ℕ) → Moves (2 * i + 2) q w → Noted fs (remove_at i l) k w
        go w (stays h) =
            record {
              passed = λ j g. test_low j (omega arith) ∙ n.passed j g;
              stopped = λ e. (omega (arith, long), test_low (q / 2) (omega arith) ∙ (n.stopped e).1);
            }
        go w (goes_on h) =
            record {
              passed = λ j g. test_low j (omega arith) ∙ n.passed j (omega arith);
              stopped = λ e. absurd (let z : ⊥ = omega arith in z);
            }
        go w (falls h) =
            record {
              passed = λ j g. lower j g (leb j i) refl;
              stopped = λ e.
                  let odd : q % 2 ≡ 1 = omega arith in
                  let up : suc ((q - 2) / 2) ≡ q / 2 = omega arith in
                  let s = n.stopped odd in
                  (omega (arith, long, s.0), test_high ((q - 2) / 2) (omega arith) ∙ (rw up s.1));
            }
          where
            lower : (j : ℕ) → j < (q - 2) / 2 → (t : Bool) → leb j i ≡ t → fails fs (remove_at i l) k j ≡ false
            lower j g true t = let b = leb-true j i t in test_low j b ∙ n.passed j (omega arith)
            lower j g false t = let b = leb-false j i t in test_high j b ∙ n.passed (suc j) (omega arith)

-- ---- the notes hold after a removal

-- 0 stays
moved_none : (fs : List Flat) (ring : List ℕ) (k i : ℕ) → Noted fs ring k (moved i 0)
moved_none fs ring k i = go (moved i 0) (moves (2 * i + 2) 0)
  where
    go : (w : ℕ) → Moves (2 * i + 2) 0 w → Noted fs ring k w
    go w (stays h) = noted_none fs ring k
    go w (goes_on h) = absurd (let z : ⊥ = omega arith in z)
    go w (falls h) = absurd (let z : ⊥ = omega arith in z)

module _ (fs : List Flat) (l why : List ℕ) (i : ℕ) (hi : i < length l) (same : length why ≡ length l) (known : Known fs l why) where
  anew_long : length (anew i why) ≡ length l
  anew_long = length-set (set why (previous (length why) i) 0) (next (length why) i) 0 ∙ length-set why (previous (length why) i) 0 ∙ same

  -- place o of the notes anew, which stands at place k of the ring that is left
  still : (k o : ℕ) → o < length l → ((o ≡ previous (length l) i → ⊥) → (o ≡ next (length l) i → ⊥) → Same l i k o) → Noted fs (remove_at i l) k (moved i (get_or (anew i why) o 0))
  still k o ho place = go (eqb o (next (length why) i)) refl (eqb o (previous (length why) i)) refl
    where
      go : (s : Bool) → eqb o (next (length why) i) ≡ s → (t : Bool) → eqb o (previous (length why) i) ≡ t → Noted fs (remove_at i l) k (moved i (get_or (anew i why) o 0))
      go true s t u =
          let e : o ≡ next (length why) i = eqb-true _ _ s in
          let z : get_or (anew i why) o 0 ≡ 0 = ap (λ (n : ℕ). get_or (anew i why) n 0) e ∙ get_or-set_same (set why (previous (length why) i) 0) (next (length why) i) 0 0 (omega (arith, length-set why (previous (length why) i) 0)) in
          rw z (moved_none fs (remove_at i l) k i)
      go false s true u =
          let e : o ≡ previous (length why) i = eqb-true _ _ u in
          let z : get_or (anew i why) o 0 ≡ 0 = get_or-set_other (set why (previous (length why) i) 0) (next (length why) i) o 0 0 (eqb-false _ _ s) ∙ ap (λ (n : ℕ). get_or (set why (previous (length why) i) 0) n 0) e ∙ get_or-set_same why (previous (length why) i) 0 0 (omega arith) in
          rw z (moved_none fs (remove_at i l) k i)
      go false s false u =
          let a = eqb-false _ _ s in
          let b = eqb-false _ _ u in
          let z : get_or (anew i why) o 0 ≡ get_or why o 0 = get_or-set_other (set why (previous (length why) i) 0) (next (length why) i) o 0 0 a ∙ get_or-set_other why (previous (length why) i) o 0 0 b in
          rw z (keep l i hi fs k o (place (rw same at b) (rw same at a)) (get_or why o 0) (known.noted o ho))

  pub known_cut : Known fs (remove_at i l) (without i why)
  unfolding without
  known_cut = record { noted = λ k hk. go k hk (ltb k i) refl }
    where
      read : (k : ℕ) → k < length (remove_at i l) → get_or (map (moved i) (remove_at i (anew i why))) k 0 ≡ moved i (get_or (remove_at i (anew i why)) k 0)
      read k hk =
          get_d_any (map (moved i) (remove_at i (anew i why))) k 0 (moved i 0) (omega (arith, length-map (remove_at i (anew i why)) (moved i), remove_at_size (anew i why) i (omega (arith, anew_long)), anew_long, long l i hi))
          ∙ get_or-map (moved i) (remove_at i (anew i why)) k 0

      go : (k : ℕ) → k < length (remove_at i l) → (b : Bool) → ltb k i ≡ b → Noted fs (remove_at i l) k (get_or (map (moved i) (remove_at i (anew i why))) k 0)
      go k hk true t =
          let g : k < i = ltb-true k i t in
          let z = read k hk ∙ ap (moved i) (rem_low (anew i why) i k (omega (arith, anew_long)) g) in
          rw z (still k k (omega arith) (low_same l i hi k g))
      go k hk false t =
          let g : i ≤ k = ltb-false k i t in
          let below : suc k < length l = omega (arith, long l i hi) in
          let z = read k hk ∙ ap (moved i) (rem_high (anew i why) i k (omega (arith, anew_long)) g) in
          rw z (still k (suc k) below (high_same l i hi k below g))

-- no note says anything
pub known_none : (fs : List Flat) (ring why : List ℕ) → NoneFrom 0 why → Known fs ring why
known_none fs ring why none = record { noted = λ k hk. rw (none k (omega arith)) (noted_none fs ring k) }

-- ---- the loop of `find_ear`

known_set : (fs : List Flat) (ring why : List ℕ) (i q : ℕ) → i < length why → Known fs ring why → Noted fs ring i q → Known fs ring (set why i q)
known_set fs ring why i q h known one = record { noted = λ k hk. go k hk (eqb k i) refl }
  where
    go : (k : ℕ) → k < length ring → (t : Bool) → eqb k i ≡ t → Noted fs ring k (get_or (set why i q) k 0)
    go k hk true t =
        let z : k ≡ i = eqb-true k i t in
        rw (z, get_or-set_same why i q 0 h) one
    go k hk false t =
        let z : get_or (set why i q) k 0 ≡ get_or why k 0 = get_or-set_other why i k q 0 (eqb-false k i t) in
        rw z (known.noted k hk)

-- the search continued from the present place gives what the search from the start gives
module _ (fs : List Flat) (ring : List ℕ) (n i : ℕ) (why t : List ℕ) where
  step : i < n → searched fs ring (n - i) i why ≡ note_down (λ w. searched fs ring (n - (i + 1)) (i + 1) w) why i (looked fs ring i (get_or why i 0))
  unfolding searched
  step h =
      let e : n - i ≡ suc (n - (i + 1)) = omega arith in
      ap (λ (m : ℕ). searched fs ring m i why) e ∙ rw (add-one i)

  search_next : (w : ℕ) → i < n → looked fs ring i (get_or why i 0) ≡ Some w → searched fs ring (n - i) i why ≡ t → searched fs ring (n - (i + 1)) (i + 1) (set why i w) ≡ t
  unfolding note_down
  search_next w h e s = sym (step h ∙ ap (note_down (λ w. searched fs ring (n - (i + 1)) (i + 1) w) why i) e) ∙ s

  search_found : i < n → looked fs ring i (get_or why i 0) ≡ None → searched fs ring (n - i) i why ≡ t → why ≡ t
  unfolding note_down
  search_found h e s = sym (step h ∙ ap (note_down (λ w. searched fs ring (n - (i + 1)) (i + 1) w) why i) e) ∙ s

  search_end : n ≤ i → searched fs ring (n - i) i why ≡ t → why ≡ t
  unfolding searched
  search_end h s = let e : n - i ≡ 0 = omega arith in rw e at s

-- a place that is noted to fail a test is passed over
looked_odd : (fs : List Flat) (ring : List ℕ) (i q : ℕ) → q % 2 ≡ 1 → looked fs ring i q ≡ Some q
unfolding looked
looked_odd fs ring i q e = rw (eq-eqb (q % 2) 1 e)

-- any other is tested
looked_even : (fs : List Flat) (ring : List ℕ) (i q : ℕ) → (q % 2 ≡ 1 → ⊥) → looked fs ring i q ≡ tested fs ring i q
unfolding looked
looked_even fs ring i q e = rw (ne_eqb (q % 2) 1 e)

-- places below i were passed, and the search goes on
pub record Looking (fs : List Flat) (ring why₀ why : List ℕ) (i : ℕ) : Type 0 where
  pub long : length why ≡ length ring
  pub known : Known fs ring why
  pub near : i ≤ length ring
  pub ears : first (is_ear fs ring) (length ring - i) i ≡ first (is_ear fs ring) (length ring) 0
  pub notes : searched fs ring (length ring - i) i why ≡ searched fs ring (length ring) 0 why₀

-- the search has ended with r
abbrev pub Looked : List Flat → List ℕ → List ℕ → List ℕ → Option ℕ → Type 0
Looked fs ring why₀ why r =
    (r ≡ first (is_ear fs ring) (length ring) 0) × ((why ≡ searched fs ring (length ring) 0 why₀) × Known fs ring why)

module _ (fs : List Flat) (ring why₀ why : List ℕ) where
  pub looking_start : length why ≡ length ring → Known fs ring why → Looking fs ring why why 0
  looking_start long known =
      let none : length ring - 0 ≡ length ring = omega arith in
      record { long = long; known = known; near = omega arith; ears = first_start _ _; notes = ap (λ (m : ℕ). searched fs ring m 0 why) none }

  pub looking_end : (i : ℕ) → length ring ≤ i → Looking fs ring why₀ why i → Looked fs ring why₀ why None
  looking_end i h l = (first_end _ _ i _ h l.ears, (search_end fs ring (length ring) i why _ h l.notes, l.known))

  module _ (i : ℕ) (h : i < length ring) (l : Looking fs ring why₀ why i) where
    next_place : (w : ℕ) → looked fs ring i (get_or why i 0) ≡ Some w → Looking fs ring why₀ (set why i w) (i + 1)
    next_place w e =
        let n = looked_no fs ring i (get_or why i 0) (l.known.noted i h) w e in
        record {
          long = length-set why i w ∙ l.long;
          known = known_set fs ring why i w (omega (arith, l.long)) l.known n.0;
          near = omega arith;
          ears = first_next _ _ i _ h n.1 l.ears;
          notes = search_next fs ring (length ring) i why _ w h e l.notes;
        }

    pub looking_pass : get_or why i 0 % 2 ≡ 1 → Looking fs ring why₀ why (i + 1)
    looking_pass e = rw (set-get_or why i 0) at (next_place (get_or why i 0) (looked_odd fs ring i (get_or why i 0) e))

    module _ (even : get_or why i 0 % 2 ≡ 1 → ⊥) where
      pub looking_next : (w : ℕ) → tested fs ring i (get_or why i 0) ≡ Some w → Looking fs ring why₀ (set why i w) (i + 1)
      looking_next w e = next_place w (looked_even fs ring i (get_or why i 0) even ∙ e)

      pub looking_found : tested fs ring i (get_or why i 0) ≡ None → Looked fs ring why₀ why (Some i)
      looking_found e = (
        first_found _ _ i _ h (tested_ear fs ring i (get_or why i 0) (l.known.noted i h) e) l.ears,
        (search_found fs ring (length ring) i why _ h (looked_even fs ring i (get_or why i 0) even ∙ e) l.notes, l.known),
      )

-- ---- a search that finds place p keeps the notes from there on

pub searched_kept : (fs : List Flat) (ring : List ℕ) (m i : ℕ) (why : List ℕ) → i + m ≤ length ring → length why ≡ length ring → Known fs ring why
    → (p : ℕ) → first (is_ear fs ring) m i ≡ Some p → (k : ℕ) → p ≤ k → get_or (searched fs ring m i why) k 0 ≡ get_or why k 0
unfolding searched first note_down
searched_kept fs ring zero i why fit long known p e k g = absurd (let z : ◌≡◌ {A = ℕ} 0 1 = cc in omega arith)
searched_kept fs ring (suc m) i why fit long known p e k g = go (looked fs ring i (get_or why i 0)) refl (λ w n l r. searched_kept fs ring m (suc i) (set why i w) (omega arith) l n p r k g)
  where
    go : (t : Option ℕ) → looked fs ring i (get_or why i 0) ≡ t
        → ((w : ℕ) → Known fs ring (set why i w) → length (set why i w) ≡ length ring → first (is_ear fs ring) m (suc i) ≡ Some p → get_or (searched fs ring m (suc i) (set why i w)) k 0 ≡ get_or (set why i w) k 0)
        → get_or (note_down (λ w. searched fs ring m (suc i) w) why i t) k 0 ≡ get_or why k 0
    go None t later = refl
    go (Some w) t later =
        let n = looked_no fs ring i (get_or why i 0) (known.noted i (omega arith)) w t in
        let r : first (is_ear fs ring) m (suc i) ≡ Some p = rw n.1 at e in
        let h = first_hit_lem (is_ear fs ring) m (suc i) p r in
        later w (known_set fs ring why i w (omega arith) known n.0) (length-set why i w ∙ long) r ∙ get_or-set_other why i k w 0 (λ z. omega (arith, h.from))
