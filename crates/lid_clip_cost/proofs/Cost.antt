-- Clipping a ring of n places makes at most 3 (n n + n) tests. What is known of a place, that is how many of its tests are, grows by the tests made of it;
-- where a corner is cut off, it falls by one at most but for three places. Assumes nothing.
use mathlib.Core.Path.{◌≡◌, refl, sym, ap, ◌∙◌}
use mathlib.Core.Bool.{Bool, true, false, cond}
use mathlib.Core.List.{List, [], ◌∷◌, map}
use Prim.Native.Nat.{ℕ, zero, suc, ◌+◌, ◌-◌, ◌*◌, ◌/◌, ◌%◌, ◌<◌, ◌≤◌}
use native.Mathlib.Nat.{not-suc-le-zero, mul-suc, suc-mul, mul-le-mul_right}
use native.Mathlib.Omega.{arith}
use lib.ListN.{length, get_or, set, replicate, length-set, length-map, length-replicate}
use lib.Dec.{eqb, leb, ltb}
use borrow.Author.Tests.{eqb-false, leb-false, lt-ltb}
use Rattle.std.specs.Prelude.{Option, None, Some}
use Rattle.lists.specs.Loops.{first, sum_of, next, previous, remove_at}
use Rattle.lid.specs.declared.Flat.{Flat}
use Rattle.lid.specs.declared.Cut.{Cut}
use Rattle.lid.specs.Clipping.{clip_step}
use Rattle.lid.proofs.Facts.{remove_at_size, clip_step_ok, joined_all, ring_size}
use Rattle.lid_clip_ear.specs.Contract.Notes.{failed_at, moved, without}
use Rattle.lid_clip_ear.proofs.NoteLaws.{Moves, stays, goes_on, falls, moves}
use Rattle.lid_clip_ear.specs.Contract.Ears.{fails, told, tested, looked, note_down, searched}
use Rattle.lid_clip_cost.specs.Cost.{calls, place_tests, later_tests, search_tests, behind_tests, clip_tests}

-- ---- how many tests of a place its note tells of

known : ℕ → ℕ
known q = (q + 1) / 2

known_of : List ℕ → ℕ
known_of why = sum_of known why

-- notes of a ring of n places
Low : ℕ → List ℕ → Type 0
Low n [] = Unit {0}
Low n (q ∷ why) = (q ≤ 2 * n + 2) × Low n why

low_at : (n : ℕ) (why : List ℕ) (i : ℕ) → Low n why → get_or why i 0 ≤ 2 * n + 2
unfolding Low
low_at n [] i b = omega arith
low_at n (q ∷ why) zero b = b.0
low_at n (q ∷ why) (suc i) b = low_at n why i b.1

low_set : (n : ℕ) (why : List ℕ) (i w : ℕ) → Low n why → w ≤ 2 * n + 2 → Low n (set why i w)
unfolding Low
low_set n [] i w b h = tt
low_set n (q ∷ why) zero w b h = (h, b.1)
low_set n (q ∷ why) (suc i) w b h = (b.0, low_set n why i w b.1 h)

low_remove : (n : ℕ) (why : List ℕ) (i : ℕ) → Low n why → Low n (remove_at i why)
unfolding Low remove_at
low_remove n [] i b = tt
low_remove n (q ∷ why) zero b = b.1
low_remove n (q ∷ why) (suc i) b = (b.0, low_remove n why i b.1)

low_blank : (n m : ℕ) → Low n (replicate m 0)
unfolding Low
low_blank n zero = tt
low_blank n (suc m) = (omega arith, low_blank n m)

low_moved : (n i : ℕ) (why : List ℕ) → i ≤ n → Low (suc n) why → Low n (map (moved i) why)
unfolding Low
low_moved n i [] h b = tt
low_moved n i (q ∷ why) h b = (one (moved i q) (moves (2 * i + 2) q), low_moved n i why h b.1)
  where
    one : (w : ℕ) → Moves (2 * i + 2) q w → w ≤ 2 * n + 2
    one w (stays g) = omega arith
    one w (goes_on g) = omega arith
    one w (falls g) = omega (arith, b.0)

known_most : (n : ℕ) (why : List ℕ) → Low n why → known_of why ≤ suc n * length why
unfolding Low known_of known sum_of
known_most n [] b = omega arith
known_most n (q ∷ why) b = omega (arith, b.0, known_most n why b.1, mul-suc (suc n) (length why))

-- ---- what is known changes

known_set : (why : List ℕ) (i w : ℕ) → i < length why → known_of (set why i w) + known (get_or why i 0) ≡ known_of why + known w
unfolding known_of sum_of
known_set [] i w h = absurd (not-suc-le-zero h)
known_set (q ∷ why) zero w h = omega arith
known_set (q ∷ why) (suc i) w h = omega (arith, known_set why i w (omega arith))

known_anew : (n : ℕ) (why : List ℕ) (i : ℕ) → Low n why → known_of why ≤ known_of (set why i 0) + (n + 1)
unfolding Low known_of known sum_of
known_anew n [] i b = omega arith
known_anew n (q ∷ why) zero b = omega (arith, b.0)
known_anew n (q ∷ why) (suc i) b = omega (arith, known_anew n why i b.1)

known_remove : (n : ℕ) (why : List ℕ) (i : ℕ) → Low n why → known_of why ≤ known_of (remove_at i why) + (n + 1)
unfolding Low known_of known sum_of remove_at
known_remove n [] i b = omega arith
known_remove n (q ∷ why) zero b = omega (arith, b.0)
known_remove n (q ∷ why) (suc i) b = omega (arith, known_remove n why i b.1)

known_moved : (i : ℕ) (why : List ℕ) → known_of why ≤ known_of (map (moved i) why) + length why
unfolding known_of known sum_of
known_moved i [] = omega arith
known_moved i (q ∷ why) = omega (arith, one (moved i q) (moves (2 * i + 2) q), known_moved i why)
  where
    one : (w : ℕ) → Moves (2 * i + 2) q w → (q + 1) / 2 ≤ (w + 1) / 2 + 1
    one w (stays g) = omega arith
    one w (goes_on g) = omega arith
    one w (falls g) = omega arith

module _ (n : ℕ) (why : List ℕ) (i : ℕ) (long : length why ≡ suc n) (hi : i < suc n) (low : Low (suc n) why) where
  without_long : length (without i why) ≡ n
  unfolding without
  without_long =
      let h = previous (length why) i in
      let j = next (length why) i in
      let e : length (set (set why h 0) j 0) ≡ suc n = length-set (set why h 0) j 0 ∙ length-set why h 0 ∙ long in
      length-map (remove_at i (set (set why h 0) j 0)) (moved i) ∙ omega (arith, remove_at_size (set (set why h 0) j 0) i (omega arith), e)

  without_low : Low n (without i why)
  unfolding without
  without_low =
      let h = previous (length why) i in
      let j = next (length why) i in
      low_moved n i (remove_at i (set (set why h 0) j 0)) (omega arith)
      (low_remove (suc n) (set (set why h 0) j 0) i (low_set (suc n) (set why h 0) j 0 (low_set (suc n) why h 0 low (omega arith)) (omega arith)))

  known_without : known_of why ≤ known_of (without i why) + (4 * n + 6)
  unfolding without
  known_without =
      let h = previous (length why) i in
      let j = next (length why) i in
      let a = low_set (suc n) why h 0 low (omega arith) in
      let b = low_set (suc n) (set why h 0) j 0 a (omega arith) in
      omega (arith, known_anew (suc n) why h low, known_anew (suc n) (set why h 0) j a, known_remove (suc n) (set (set why h 0) j 0) i b, known_moved i (remove_at i (set (set why h 0) j 0)), without_long, length-map (remove_at i (set (set why h 0) j 0)) (moved i))

-- ---- the tests of one place

calls_hit : (p : ℕ → Bool) (m k j : ℕ) → first p m k ≡ Some j → calls p m k + k ≡ suc j
unfolding first calls
calls_hit p zero k j e = absurd (let z : ◌≡◌ {A = ℕ} 0 1 = cc in omega arith)
calls_hit p (suc m) k j e = go (p k) e (λ r. calls_hit p m (suc k) j r)
  where
    go : (t : Bool) → cond t (Some k) (first p m (suc k)) ≡ Some j → (first p m (suc k) ≡ Some j → calls p m (suc k) + suc k ≡ suc j) → suc (cond t 0 (calls p m (suc k))) + k ≡ suc j
    go true e later = let z : k ≡ j = cc in omega arith
    go false e later = omega (arith, later e)

calls_most : (p : ℕ → Bool) (m k : ℕ) → calls p m k ≤ m
unfolding calls
calls_most p zero k = omega arith
calls_most p (suc m) k = go (p k) (calls_most p m (suc k))
  where
    go : (t : Bool) → calls p m (suc k) ≤ m → suc (cond t 0 (calls p m (suc k))) ≤ suc m
    go true later = omega arith
    go false later = omega arith

module _ (fs : List Flat) (ring : List ℕ) (small : length ring < 2147483647) (i q : ℕ) (low : q ≤ 2 * length ring + 2) where
  -- a place that is no ear: what was tested is known
  place_no : (w : ℕ) → looked fs ring i q ≡ Some w → (known w ≡ known q + place_tests fs ring i q) × (w ≤ 2 * length ring + 2)
  unfolding looked tested told failed_at place_tests known
  place_no w e = go (eqb (q % 2) 1) refl e
    where
      go : (t : Bool) → eqb (q % 2) 1 ≡ t → cond t (Some q) (told (first (fails fs ring i) (suc (length ring) - q / 2) (q / 2))) ≡ Some w
          → ((w + 1) / 2 ≡ (q + 1) / 2 + cond t 0 (calls (fails fs ring i) (suc (length ring) - q / 2) (q / 2))) × (w ≤ 2 * length ring + 2)
      go true t e = let z : q ≡ w = cc in (omega arith, omega arith)
      go false t e = found (first (fails fs ring i) (suc (length ring) - q / 2) (q / 2)) refl e
        where
          found : (f : Option ℕ) → first (fails fs ring i) (suc (length ring) - q / 2) (q / 2) ≡ f → told f ≡ Some w
              → ((w + 1) / 2 ≡ (q + 1) / 2 + calls (fails fs ring i) (suc (length ring) - q / 2) (q / 2)) × (w ≤ 2 * length ring + 2)
          found (Some j) f e =
              let odd = eqb-false (q % 2) 1 t in
              let c = calls_hit (fails fs ring i) (suc (length ring) - q / 2) (q / 2) j f in
              let m = calls_most (fails fs ring i) (suc (length ring) - q / 2) (q / 2) in
              let b : j < 2147483647 = omega arith in
              let x : cond (ltb j 2147483647) (2 * j + 1) 4294967294 ≡ w = cc in
              let z : 2 * j + 1 ≡ w = rw (lt-ltb j 2147483647 b) at x in
              (omega arith, omega arith)
          found None f e = absurd (let z : ◌≡◌ {A = ℕ} 0 1 = cc in omega arith)

  place_most : place_tests fs ring i q ≤ suc (length ring)
  unfolding place_tests
  place_most = go (eqb (q % 2) 1)
    where
      go : (t : Bool) → cond t 0 (calls (fails fs ring i) (suc (length ring) - q / 2) (q / 2)) ≤ suc (length ring)
      go true = omega arith
      go false = omega (arith, calls_most (fails fs ring i) (suc (length ring) - q / 2) (q / 2))

-- ---- a search

-- n places, of which so much was known before: the tests made are known after, but for those of an ear
record Spent (n tests before : ℕ) (why : List ℕ) : Type 0 where
  cost : tests + before ≤ known_of why + suc n
  low : Low n why
  long : length why ≡ n

search_spent : (fs : List Flat) (ring : List ℕ) → length ring < 2147483647 → (m i : ℕ) (why : List ℕ) → i + m ≤ length ring → length why ≡ length ring → Low (length ring) why
    → Spent (length ring) (search_tests fs ring m i why) (known_of why) (searched fs ring m i why)
unfolding search_tests searched later_tests note_down
search_spent fs ring small zero i why h long low = record { cost = omega arith; low = low; long = long }
search_spent fs ring small (suc m) i why h long low = go (looked fs ring i (get_or why i 0)) refl (λ w a b. search_spent fs ring small m (suc i) w (omega arith) a b)
  where
    go : (x : Option ℕ) → looked fs ring i (get_or why i 0) ≡ x
        → ((w : List ℕ) → length w ≡ length ring → Low (length ring) w → Spent (length ring) (search_tests fs ring m (suc i) w) (known_of w) (searched fs ring m (suc i) w))
        → Spent (length ring) (place_tests fs ring i (get_or why i 0) + later_tests (λ w. search_tests fs ring m (suc i) w) why i x) (known_of why) (note_down (λ w. searched fs ring m (suc i) w) why i x)
    go None e later = record { cost = omega (arith, place_most fs ring small i (get_or why i 0) (low_at (length ring) why i low)); low = low; long = long }
    go (Some w) e later =
        let p = place_no fs ring small i (get_or why i 0) (low_at (length ring) why i low) w e in
        let s = later (set why i w) (length-set why i w ∙ long) (low_set (length ring) why i w low p.1) in
        record { cost = omega (arith, p.0, s.cost, known_set why i w (omega arith)); low = s.low; long = s.long }

-- ---- clipping

more : (m : ℕ) → 3 * (suc m * suc m + suc m) ≡ 3 * (m * m + m) + (6 * m + 6)
more m = omega (arith, suc-mul m (suc m), mul-suc m m)

clip_spent : (fs : List Flat) (f n : ℕ) (ring why : List ℕ) → length ring ≡ n → n < 2147483647 → length why ≡ n → Low n why → clip_tests fs f ring why + known_of why ≤ 3 * (n * n + n)
unfolding clip_tests behind_tests
clip_spent fs zero n ring why e small long low = omega (arith, known_most n why low, suc-mul n n, ap (λ (k : ℕ). suc n * k) long)
clip_spent fs (suc f) n ring why e small long low = go (leb (length ring) 3) refl (λ m r w. clip_spent fs f m r w)
  where
    Later : Type 0
    Later = (m : ℕ) (r w : List ℕ) → length r ≡ m → m < 2147483647 → length w ≡ m → Low m w → clip_tests fs f r w + known_of w ≤ 3 * (m * m + m)

    go : (t : Bool) → leb (length ring) 3 ≡ t → Later
        → cond t 0 (search_tests fs ring (length ring) 0 why + behind_tests (λ r w. clip_tests fs f r w) ring (searched fs ring (length ring) 0 why) (clip_step fs ring)) + known_of why ≤ 3 * (n * n + n)
    go true t later = omega (arith, known_most n why low, suc-mul n n, ap (λ (k : ℕ). suc n * k) long)
    go false t later = next_step (clip_step fs ring) refl
      where
        over : 3 < length ring
        over = leb-false (length ring) 3 t

        spent : Spent (length ring) (search_tests fs ring (length ring) 0 why) (known_of why) (searched fs ring (length ring) 0 why)
        spent = search_spent fs ring (omega arith) (length ring) 0 why (omega arith) (long ∙ sym e) (rw e low)

        next_step : (x : Option Cut) → clip_step fs ring ≡ x
            → search_tests fs ring (length ring) 0 why + behind_tests (λ r w. clip_tests fs f r w) ring (searched fs ring (length ring) 0 why) x + known_of why ≤ 3 * (n * n + n)
        next_step None s =
            omega (arith, over, spent.cost, known_most (length ring) (searched fs ring (length ring) 0 why) spent.low, suc-mul n n, ap (λ (k : ℕ). suc (length ring) * k) spent.long, ap (λ (k : ℕ). suc k * k) e)
        next_step (Some cut) s =
            let p = cut.place.0 in
            let m = length ring - 1 in
            let d : length ring ≡ suc m = omega (arith, over) in
            let b : p < length ring = (rw s at (clip_step_ok fs ring)).1 in
            let w = searched fs ring (length ring) 0 why in
            let lw : Low (suc m) w = rw (← d) spent.low in
            let ih = later m (remove_at p ring) (without p w) (omega (arith, remove_at_size ring p b)) (omega arith) (without_long m w p (spent.long ∙ d) (omega arith) lw) (without_low m w p (spent.long ∙ d) (omega arith) lw) in
            omega (arith, over, spent.cost, ih, known_without m w p (spent.long ∙ d) (omega arith) lw, more m, ap (λ (k : ℕ). 3 * (k * k + k)) (sym e ∙ d))

-- clipping a ring of n places, of which nothing is known, makes at most 3 (n n + n) tests
pub clip_tests_lem : (fs : List Flat) (ring : List ℕ) → length ring < 2147483647 → clip_tests fs (length ring) ring (replicate (length ring) 0) ≤ 3 * (length ring * length ring + length ring)
clip_tests_lem fs ring small =
    omega (arith, clip_spent fs (length ring) (length ring) ring (replicate (length ring) 0) refl small (length-replicate (length ring) 0) (low_blank (length ring) (length ring)))

-- the ring of a lid has at most 576 places, by the limits of document 01, section 1
pub lid_tests : (fs : List Flat) (c : ℕ) (holes : List ℕ) → c + sum_of (λ n. n + 2) holes ≤ 576
    → clip_tests fs (length (joined_all fs c holes).ring) (joined_all fs c holes).ring (replicate (length (joined_all fs c holes).ring) 0) ≤ 997056
lid_tests fs c holes h =
    let r = (joined_all fs c holes).ring in
    let n = length r in
    let b : n ≤ 576 = omega (arith, ring_size fs c holes) in
    let s : n * n ≤ 576 * n = mul-le-mul_right n b in
    omega (arith, clip_tests_lem fs r (omega arith), s, b)
