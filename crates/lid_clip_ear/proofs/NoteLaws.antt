-- Notes where a corner is removed. Assumes nothing.
use mathlib.Core.Path.{◌≡◌, refl, sym, ap, ap₂, ◌∙◌}
use mathlib.Core.Bool.{Bool, true, false, cond}
use mathlib.Core.List.{List, [], ◌∷◌, ◌++◌, map}
use Prim.Native.Nat.{ℕ, zero, suc, ◌+◌, ◌-◌, ◌*◌, ◌<◌, ◌≤◌, ◌^◌}
use native.Mathlib.Nat.{le_of_suc-le-suc, not-suc-le-zero}
use native.Mathlib.Numerals.{add-one}
use native.Mathlib.Omega.{arith}
use lib.ListN.{length, get_or, take, drop, set, length-set, length-map, take-append-drop, get_or-map}
use lib.Seq.{get_or-set_same, get_or-set_other, get_or-drop, ext_get_or, length-take-le, take_at, drop_at}
use lib.Dec.{eqb, ltb}
use borrow.Rule.Slice.PartMut.{mid_of, put_mid, same_len_mid}
use borrow.Author.Tests.{eqb-true, eqb-false, ltb-true, ltb-false, lt-ltb, le-ltb}
use Rattle.std.specs.List.{copy_within}
use Rattle.lists.specs.Loops.{next, previous, remove_at}
use Rattle.lists.proofs.Lists.{get_d_any, map-append}
use Rattle.lid.proofs.Areas.Ring.{remove_at_is}
use Rattle.lid.proofs.Facts.{remove_at_size}
use Rattle.lid_clip_ear.specs.Contract.Notes.{down, moved_by, moved, capped, moved_before, NoneFrom, anew, without}

-- ---- places after a removal

pub rem_low : (l : List ℕ) (i k : ℕ) → i < length l → k < i → get_or (remove_at i l) k 0 ≡ get_or l k 0
unfolding remove_at
rem_low [] i k h g = absurd (not-suc-le-zero h)
rem_low (x ∷ xs) zero k h g = absurd (not-suc-le-zero g)
rem_low (x ∷ xs) (suc i) zero h g = refl
rem_low (x ∷ xs) (suc i) (suc k) h g = rem_low xs i k (le_of_suc-le-suc h) (le_of_suc-le-suc g)

pub rem_high : (l : List ℕ) (i k : ℕ) → i < length l → i ≤ k → get_or (remove_at i l) k 0 ≡ get_or l (suc k) 0
unfolding remove_at
rem_high [] i k h g = absurd (not-suc-le-zero h)
rem_high (x ∷ xs) zero k h g = refl
rem_high (x ∷ xs) (suc i) zero h g = absurd (not-suc-le-zero g)
rem_high (x ∷ xs) (suc i) (suc k) h g = rem_high xs i k (le_of_suc-le-suc h) (le_of_suc-le-suc g)

-- ---- a note moved

-- what becomes of a note
pub data Moves (low q : ℕ) : ℕ → Type 0 where
  stays : q ≤ low → Moves low q q
  goes_on : q ≡ low + 1 → Moves low q low
  falls : low + 2 ≤ q → Moves low q (q - 2)

down_low : (low q : ℕ) → q ≤ low → down low q ≡ q
unfolding down
down_low low q h = rw (le-ltb low q h)

down_high : (low q : ℕ) → low < q → down low q ≡ q - 1
unfolding down
down_high low q h = rw (lt-ltb low q h)

pub moves : (low q : ℕ) → Moves low q (moved_by low q)
unfolding moved_by
moves low q = go (ltb low q) refl (ltb low (q - 1)) refl
  where
    go : (s : Bool) → ltb low q ≡ s → (t : Bool) → ltb low (q - 1) ≡ t → Moves low q (down low (down low q))
    go false s t u =
        let h = ltb-false low q s in
        rw (down_low low q h, down_low low q h) (stays h)
    go true s false u =
        let h = ltb-true low q s in
        let g = ltb-false low (q - 1) u in
        let e : q - 1 ≡ low = omega arith in
        rw (down_high low q h, down_low low (q - 1) g, e) (goes_on (omega arith))
    go true s true u =
        let h = ltb-true low q s in
        let g = ltb-true low (q - 1) u in
        let e : q - 1 - 1 ≡ q - 2 = omega arith in
        rw (down_high low q h, down_high low (q - 1) g, e) (falls (omega arith))

-- a note as the code has it is moved by the bound as far as notes go
moved_capped : (i q : ℕ) → q < 2 ^ 32 → moved_by (capped i) q ≡ moved i q
unfolding capped moved_by
moved_capped i q h = go (ltb i 2147483647) refl
  where
    go : (t : Bool) → ltb i 2147483647 ≡ t → moved_by (cond t (2 * i + 2) 4294967295) q ≡ moved i q
    go true t = refl
    go false t =
        let a = ltb-false i 2147483647 t in
        let x : down 4294967295 q ≡ q = down_low 4294967295 q (omega arith) in
        let y : down (2 * i + 2) q ≡ q = down_low (2 * i + 2) q (omega arith) in
        rw (x, x, y, y)

all_capped : (i : ℕ) (why : List ℕ) → ((k : ℕ) → get_or why k 0 < 2 ^ 32) → map (moved_by (capped i)) why ≡ map (moved i) why
all_capped i [] h = refl
all_capped i (q ∷ why) h = rw (moved_capped i q (h 0), all_capped i why (λ k. h (suc k)))

fits_remove : (i : ℕ) (why : List ℕ) → ((k : ℕ) → get_or why k 0 < 2 ^ 32) → (k : ℕ) → get_or (remove_at i why) k 0 < 2 ^ 32
unfolding remove_at
fits_remove i [] h k = h k
fits_remove zero (q ∷ why) h k = h (suc k)
fits_remove (suc i) (q ∷ why) h zero = h 0
fits_remove (suc i) (q ∷ why) h (suc k) = fits_remove i why (λ k. h (suc k)) k

fits_anew : (i : ℕ) (why : List ℕ) → ((k : ℕ) → get_or why k 0 < 2 ^ 32) → (k : ℕ) → get_or (set why i 0) k 0 < 2 ^ 32
fits_anew i [] h k = h k
fits_anew zero (q ∷ why) h zero = omega arith
fits_anew zero (q ∷ why) h (suc k) = h (suc k)
fits_anew (suc i) (q ∷ why) h zero = h 0
fits_anew (suc i) (q ∷ why) h (suc k) = fits_anew i why (λ k. h (suc k)) k

-- ---- `shift_before`: the notes before place i, moved, one place on

pub raised : (low : ℕ) (why mid e : List ℕ) (i n : ℕ) → i < length why → n ≡ i → mid ≡ copy_within why 0 i 1 → e ≡ map (moved_by low) (mid_of 1 n mid) → put_mid 1 n mid e ≡ moved_before low i why
raised low [] mid e i n h en em ee = absurd (not-suc-le-zero h)
raised low (x ∷ xs) mid e i n h en em ee =
    let before = take i (x ∷ xs) in
    let behind = drop (i + 1) (x ∷ xs) in
    let size : length before ≡ n = length-take-le i (x ∷ xs) (omega arith) ∙ sym en in
    let on : 1 + (i - 0) ≡ i + 1 = omega arith in
    let all : i - 0 ≡ i = omega arith in
    let laid : mid ≡ x ∷ (before ++ behind) = em ∙ rw (on, all) in
    let moved_on : e ≡ map (moved_by low) before = ee ∙ rw (laid, take_at before behind n size) in
    rw (laid, drop_at before behind n size, moved_on)

-- ---- `forget`: place i is taken out of mid, the notes with those of its neighbours anew

none_anew : (l : List ℕ) (i k : ℕ) → get_or l k 0 ≡ 0 → get_or (set l i 0) k 0 ≡ 0
none_anew [] i k e = e
none_anew (q ∷ l) zero zero e = refl
none_anew (q ∷ l) zero (suc k) e = e
none_anew (q ∷ l) (suc i) zero e = e
none_anew (q ∷ l) (suc i) (suc k) e = none_anew l i k e

moved_nothing : (low : ℕ) → moved_by low 0 ≡ 0
unfolding moved_by
moved_nothing low = let z : down low 0 ≡ 0 = down_low low 0 (omega arith) in rw (z, z)

map_none : (low : ℕ) (l : List ℕ) → ((k : ℕ) → get_or l k 0 ≡ 0) → map (moved_by low) l ≡ l
map_none low [] h = refl
map_none low (q ∷ l) h = ap₂ (λ (a : ℕ) (r : List ℕ). a ∷ r) (ap (moved_by low) (h 0) ∙ moved_nothing low ∙ sym (h 0)) (map_none low l (λ k. h (suc k)))

-- the notes behind place i are moved, those from `known` on by being left alone
tail_moved : (low i known : ℕ) (mid e : List ℕ) → i < known → NoneFrom known mid → e ≡ map (moved_by low) (take (known - (i + 1)) (drop (i + 1) mid))
    → e ++ drop (known - (i + 1)) (drop (i + 1) mid) ≡ map (moved_by low) (drop (i + 1) mid)
tail_moved low i known mid e h none shifted =
    let f = moved_by low in
    let k = known - (i + 1) in
    let tail = drop (i + 1) mid in
    let read : (p : ℕ) → get_or (drop k tail) p 0 ≡ 0 = λ p. get_or-drop k tail p 0 ∙ get_or-drop (i + 1) mid (k + p) 0 ∙ none (i + 1 + (k + p)) (omega arith) in
    ap₂ (λ (a b : List ℕ). a ++ b) shifted (sym (map_none low (drop k tail) read)) ∙ sym (map-append f (take k tail) (drop k tail)) ∙ ap (map f) (take-append-drop k tail)

take_again : (l r : List ℕ) (i : ℕ) → i < length l → take i (take (suc i) l ++ r) ≡ take i l
take_again [] r i h = absurd (not-suc-le-zero h)
take_again (x ∷ l) r zero h = refl
take_again (x ∷ l) r (suc i) h = ap (λ (s : List ℕ). x ∷ s) (take_again l r i (le_of_suc-le-suc h))

first_again : (l r : List ℕ) (i : ℕ) → i < length l → take 1 (take (suc i) l ++ r) ≡ take 1 l
first_again [] r i h = absurd (not-suc-le-zero h)
first_again (x ∷ l) r i h = refl

-- those before it are moved then
both_moved : (low i : ℕ) (mid : List ℕ) → i < length mid → moved_before low i (take (i + 1) mid ++ map (moved_by low) (drop (i + 1) mid)) ≡ take 1 mid ++ map (moved_by low) (remove_at i mid)
both_moved low i mid h =
    let f = moved_by low in
    let behind = map f (drop (suc i) mid) in
    let all : drop (suc i) (take (suc i) mid ++ behind) ≡ behind = drop_at (take (suc i) mid) behind (suc i) (length-take-le (suc i) mid h) in
    let joined : map f (take i mid) ++ behind ≡ map f (remove_at i mid) = sym (ap (map f) (remove_at_is i mid) ∙ map-append f (take i mid) (drop (suc i) mid)) in
    rw (add-one i, first_again mid behind i h, take_again mid behind i h, all, joined)

pub anew_long : (why : List ℕ) (h j : ℕ) → length (set (set why h 0) j 0) ≡ length why
anew_long why h j = length-set (set why h 0) j 0 ∙ length-set why h 0

pub shifted_long : (why : List ℕ) (i h j known : ℕ) (e : List ℕ) → length e ≡ length (mid_of (i + 1) (known - (i + 1)) (set (set why h 0) j 0))
    → length (put_mid (i + 1) (known - (i + 1)) (set (set why h 0) j 0) e) ≡ length why
shifted_long why i h j known e k = same_len_mid (i + 1) (known - (i + 1)) (set (set why h 0) j 0) e k ∙ anew_long why h j

pub forgot : (why e new : List ℕ) (i h j low known : ℕ) → i < known → known ≤ length why → NoneFrom known why → ((k : ℕ) → get_or why k 0 < 2 ^ 32)
    → h ≡ previous (length why) i → j ≡ next (length why) i → low ≡ capped i → e ≡ map (moved_by low) (take (known - (i + 1)) (drop (i + 1) (set (set why h 0) j 0)))
    → new ≡ moved_before low i (take (i + 1) (set (set why h 0) j 0) ++ (e ++ drop (known - (i + 1)) (drop (i + 1) (set (set why h 0) j 0))))
    → new ≡ take 1 (anew i why) ++ without i why
unfolding without
forgot why e new i h j low known near fits none small eh ej cap shifted done =
    let mid = set (set why h 0) j 0 in
    let behind = tail_moved low i known mid e near (λ k g. none_anew (set why h 0) j k (none_anew why h k (none k g))) shifted in
    let moved_all : map (moved_by low) (remove_at i mid) ≡ map (moved i) (remove_at i mid) =
    ap (λ (l : ℕ). map (moved_by l) (remove_at i mid)) cap ∙ all_capped i (remove_at i mid) (fits_remove i mid (fits_anew j (set why h 0) (fits_anew h why small))) in
    done ∙ ap (λ (r : List ℕ). moved_before low i (take (i + 1) mid ++ r)) behind
    ∙ both_moved low i mid (omega (arith, anew_long why h j))
    ∙ ap (λ (r : List ℕ). take 1 mid ++ r) moved_all
    ∙ rw (eh, ej)

-- the notes that are left are the last ones
pub forgotten_behind : (i : ℕ) (why new : List ℕ) → i < length why → new ≡ take 1 (anew i why) ++ without i why → drop 1 new ≡ without i why
forgotten_behind i why new h e = go (anew i why) (omega (arith, anew_long why (previous (length why) i) (next (length why) i))) e
  where
    go : (l : List ℕ) → 0 < length l → new ≡ take 1 l ++ without i why → drop 1 new ≡ without i why
    go [] h e = absurd (not-suc-le-zero h)
    go (x ∷ l) h e = ap (drop 1) e

pub without_size : (i : ℕ) (why : List ℕ) → i < length why → suc (length (without i why)) ≡ length why
unfolding without
without_size i why h =
    let long : length (anew i why) ≡ length why = anew_long why (previous (length why) i) (next (length why) i) in
    omega (arith, length-map (remove_at i (anew i why)) (moved i), remove_at_size (anew i why) i (omega arith), long)

-- and there is none from a place before on
pub none_without : (i known : ℕ) (why : List ℕ) → i < known → i < length why → NoneFrom known why → NoneFrom (known - 1) (without i why)
unfolding without
none_without i known why near h none k g =
    let mid = anew i why in
    let zero-behind : get_or mid (suc k) 0 ≡ 0 = none_anew (set why (previous (length why) i) 0) (next (length why) i) (suc k) (none_anew why (previous (length why) i) (suc k) (none (suc k) (omega arith))) in
    let out : get_or (remove_at i mid) k 0 ≡ 0 = rem_high mid i k (omega (arith, anew_long why (previous (length why) i) (next (length why) i))) (omega arith) ∙ zero-behind in
    ap (get_or (map (moved i) (remove_at i mid)) k) (sym (moved_nothing (2 * i + 2))) ∙ get_or-map (moved i) (remove_at i mid) k 0 ∙ ap (moved i) out ∙ moved_nothing (2 * i + 2)

-- ---- the loop of `shift_all`: places below k are done

pub record Sweep (f : ℕ → ℕ) (old new : List ℕ) (k : ℕ) : Type 0 where
  pub long : length new ≡ length old
  pub done : (p : ℕ) → p < k → get_or new p 0 ≡ f (get_or old p 0)
  pub rest : (p : ℕ) → k ≤ p → get_or new p 0 ≡ get_or old p 0

pub sweep_start : (f : ℕ → ℕ) (old : List ℕ) → Sweep f old old 0
sweep_start f old = record { long = refl; done = λ p h. absurd (not-suc-le-zero h); rest = λ p h. refl }

pub sweep_again : (f : ℕ → ℕ) (old new : List ℕ) (k v : ℕ) → k < length new → Sweep f old new k → v ≡ f (get_or new k 0) → Sweep f old (set new k v) (k + 1)
sweep_again f old new k v h s e =
    record {
      long = length-set new k v ∙ s.long;
      done = λ p g. go p g (eqb p k) refl;
      rest = λ p g. get_or-set_other new k p v 0 (λ z. omega arith) ∙ s.rest p (omega arith);
    }
  where
    go : (p : ℕ) → p < k + 1 → (t : Bool) → eqb p k ≡ t → get_or (set new k v) p 0 ≡ f (get_or old p 0)
    go p g true t =
        let q : p ≡ k = eqb-true p k t in
        rw q (get_or-set_same new k v 0 h ∙ e ∙ ap f (s.rest k (omega arith)))
    go p g false t =
        let q : (p ≡ k → ⊥) = eqb-false p k t in
        get_or-set_other new k p v 0 q ∙ s.done p (omega arith)

-- done, where f is applied to every note
pub sweep_map : (f : ℕ → ℕ) (old new : List ℕ) (k : ℕ) → length new ≤ k → Sweep f old new k → new ≡ map f old
sweep_map f old new k h s = ext_get_or 0 new (map f old) (s.long ∙ sym (length-map old f)) one
  where
    one : (p : ℕ) → p < length new → get_or new p 0 ≡ get_or (map f old) p 0
    one p g =
        s.done p (omega arith) ∙ sym (get_or-map f old p 0)
        ∙ get_d_any (map f old) p (f 0) 0 (omega (arith, length-map old f, s.long))
