-- Clipping a ring in place, step by step, with its log and its triangles. Assumes nothing.
use mathlib.Core.Path.{◌≡◌, refl, sym, ap, ◌∙◌}
use mathlib.Core.Bool.{Bool, true, false, cond}
use mathlib.Core.List.{List, [], ◌∷◌, ◌++◌, append-nil}
use Prim.Native.Nat.{ℕ, zero, suc, ◌+◌, ◌-◌, ◌<◌, ◌≤◌}
use native.Mathlib.Nat.{add-zero, sub-zero}
use native.Mathlib.Omega.{arith}
use lib.ListN.{length, take, drop, length-append, length-drop, drop_of_length-le}
use lib.Dec.{leb, eqb}
use lib.Seq.{take_all, length-take-le, drop-append-add}
use borrow.Author.Tests.{leb-false}
use borrow.Rule.Slice.PartMut.{mid_of, put_mid, same_len_mid}
use Rattle.lists.specs.Loops.{first, remove_at}
use Rattle.face_triangle.specs.Triangles.{Triangle, triangle}
use Rattle.lid.specs.declared.Flat.{Flat}
use Rattle.std.specs.Prelude.{Option, None, Some}
use Rattle.lid.specs.declared.Cut.{Cut}
use Rattle.lid.specs.Marks.{mark_number}
use Rattle.lid.specs.Log.{Entry, logged}
use Rattle.lid.specs.Clipping.{is_ear, cut_ear, clip_step, clip, clip_by}
use Rattle.lid.specs.Lid.{ears_of}
use Rattle.lid.specs.Contract.Written.{log_with, triangles_with}
use Rattle.lid.specs.Contract.Steps.{cut_entry, Cuts, Clips}
use Rattle.lid.proofs.Facts.{clip_step_ok}
use Rattle.lid_log.proofs.RecordLaws.{log_next, log_end, triangles_some, triangle_end}

-- ---- one step

cond_cut : (b : Bool) (s : Option Cut) (cut : Cut) → cond b None s ≡ Some cut → b ≡ false
cond_cut true s cut e = absurd (let z : ◌≡◌ {A = ℕ} 0 1 = cc in omega arith)
cond_cut false s cut e = refl

module _ (fs : List Flat) (ring : List ℕ) where
  pub clip_stop : clip_step fs ring ≡ None → (m : ℕ) → clip fs m ring ≡ record { ring = ring; log = [] }
  unfolding clip clip_by
  clip_stop e zero = refl
  clip_stop e (suc m) = rw e

  module _ (cut : Cut) (e : clip_step fs ring ≡ Some cut) where
    pub step_over : 3 < length ring
    unfolding clip_step
    step_over = leb-false _ _ (cond_cut (leb (length ring) 3) (cut_ear fs ring (first (is_ear fs ring) (length ring) 0)) cut e)

    pub step_in : cut.place.0 < length ring
    step_in = (rw e at (clip_step_ok fs ring)).1

    clip_go : (m : ℕ) → 3 < m → clip fs m ring ≡ logged (cut_entry (mark_number cut.mark) ring cut.place.0) (clip fs (m - 1) (remove_at cut.place.0 ring))
    unfolding clip clip_by
    clip_go m h = let s : m ≡ suc (m - 1) = omega arith in ap (λ (k : ℕ). clip fs k ring) s ∙ rw e

-- ---- the triangles of the entries

ears_cons : (e : Entry) (es : List Entry) → ears_of (e ∷ es) ≡ ears_of (e ∷ []) ++ ears_of es
unfolding ears_of
ears_cons e es = go (eqb e.mark 1) (triangle e.a e.b e.c)
  where
    go : (b : Bool) (t : Triangle) → cond b (t ∷ ears_of es) (ears_of es) ≡ cond b (t ∷ []) [] ++ ears_of es
    go true t = refl
    go false t = refl

at_most_one : (b : Bool) (t : Triangle) → length (cond b (t ∷ []) []) ≤ 1
at_most_one true t = omega arith
at_most_one false t = omega arith

-- ---- the last part of a buffer, lent and given back

module _ {A : Type 0} (from : ℕ) (l : List A) where
  pub tail_is : mid_of from (length l - from) l ≡ drop from l
  tail_is = take_all (length l - from) (drop from l) (omega (arith, length-drop from l))

  module _ (x : List A) (kept : length x ≡ length (mid_of from (length l - from) l)) where
    pub put_long : length (put_mid from (length l - from) l x) ≡ length l
    put_long = same_len_mid from (length l - from) l x kept

    -- without its first element it stands one place on
    pub put_behind : from ≤ length l → drop (from + 1) (put_mid from (length l - from) l x) ≡ drop 1 x
    put_behind h =
        let none : drop (length l - from) (drop from l) ≡ [] = drop_of_length-le (drop from l) {i = length l - from} (omega (arith, length-drop from l)) in
        let many : length (take from l) ≡ from = length-take-le from l h in
        ap (λ (k : ℕ). drop (k + 1) (put_mid from (length l - from) l x)) (sym many) ∙ drop-append-add (take from l) (x ++ drop (length l - from) (drop from l)) 1
        ∙ rw none (ap (drop 1) (append-nil x))

-- ---- the loop of `clip_held`: what is left to do ends as the whole was to end

pub record Clipping (fs : List Flat) (ring₀ log₀ : List ℕ) (n : ℕ) (triangles₀ ring log triangles : List ℕ) (from entries count : ℕ) : Type 0 where
  pub long : length ring ≡ length ring₀
  pub fewer : from ≤ length ring₀
  pub so_far : entries ≡ n + from
  pub few : count ≤ from
  pub log_long : length log ≡ length log₀
  pub triangles_long : length triangles ≡ length triangles₀
  pub remains : (clip fs (length ring₀ - from) (drop from ring)).ring ≡ (clip fs (length ring₀) ring₀).ring
  pub writing : log_with log entries (clip fs (length ring₀ - from) (drop from ring)).log ≡ log_with log₀ n (clip fs (length ring₀) ring₀).log
  pub counting : entries + length (clip fs (length ring₀ - from) (drop from ring)).log ≡ n + length (clip fs (length ring₀) ring₀).log
  pub drawing : triangles_with triangles count (ears_of (clip fs (length ring₀ - from) (drop from ring)).log) ≡ triangles_with triangles₀ 0 (ears_of (clip fs (length ring₀) ring₀).log)
  pub offering : count + length (ears_of (clip fs (length ring₀ - from) (drop from ring)).log) ≡ length (ears_of (clip fs (length ring₀) ring₀).log)

pub clip_start : (fs : List Flat) (ring log : List ℕ) (n : ℕ) (triangles : List ℕ) → Clipping fs ring log n triangles ring log triangles 0 n 0
clip_start fs ring log n triangles =
    let all : length ring - 0 ≡ length ring = sub-zero (length ring) in
    record {
      long = refl;
      fewer = omega arith;
      so_far = omega arith;
      few = omega arith;
      log_long = refl;
      triangles_long = refl;
      remains = rw all;
      writing = rw all;
      counting = rw all;
      drawing = rw all;
      offering = rw all (omega arith);
    }

module _ (fs : List Flat) (ring₀ log₀ : List ℕ) (n : ℕ) (triangles₀ ring log triangles ring' log' triangles' : List ℕ) (from entries count count' : ℕ) (cut : Cut) (x : List ℕ)
    (inv : Clipping fs ring₀ log₀ n triangles₀ ring log triangles from entries count)
    (step : clip_step fs (drop from ring) ≡ Some cut)
    (kept : length ring' ≡ length ring)
    (moved : drop (from + 1) ring' ≡ drop 1 x)
    (log-kept : length log' ≡ length log)
    (triangles-kept : length triangles' ≡ length triangles)
    (did : Cuts (mark_number cut.mark) (drop from ring) cut.place.0 x log log' entries triangles triangles' count count') where
  abbrev one : Entry
  one = cut_entry (mark_number cut.mark) (drop from ring) cut.place.0

  over : 3 < length ring₀ - from
  over = omega (arith, step_over fs (drop from ring) cut step, length-drop from ring, inv.long)

  whole : clip fs (length ring₀ - from) (drop from ring) ≡ logged one (clip fs (length ring₀ - (from + 1)) (drop (from + 1) ring'))
  whole =
      let less : length ring₀ - from - 1 ≡ length ring₀ - (from + 1) = omega arith in
      clip_go fs (drop from ring) cut step (length ring₀ - from) over ∙ rw (less, moved, did.removed)

  one_ear : length (ears_of (one ∷ [])) ≤ 1
  unfolding ears_of
  one_ear = at_most_one (eqb (mark_number cut.mark) 1) _

  pub clip_again : Clipping fs ring₀ log₀ n triangles₀ ring' log' triangles' (from + 1) (entries + 1) count'
  unfolding logged
  clip_again =
      let more = (clip fs (length ring₀ - (from + 1)) (drop (from + 1) ring')).log in
      let e = one in
      let w : log_with log entries (e ∷ more) ≡ log_with log₀ n (clip fs (length ring₀) ring₀).log = rw whole at inv.writing in
      let c : entries + suc (length more) ≡ n + length (clip fs (length ring₀) ring₀).log = rw whole at inv.counting in
      let d : triangles_with triangles count (ears_of (e ∷ more)) ≡ triangles_with triangles₀ 0 (ears_of (clip fs (length ring₀) ring₀).log) = rw whole at inv.drawing in
      let o : count + length (ears_of (e ∷ more)) ≡ length (ears_of (clip fs (length ring₀) ring₀).log) = rw whole at inv.offering in
      record {
        long = kept ∙ inv.long;
        fewer = omega (arith, over);
        so_far = omega (arith, inv.so_far);
        few = omega (arith, inv.few, did.offered, one_ear);
        log_long = log-kept ∙ inv.log_long;
        triangles_long = triangles-kept ∙ inv.triangles_long;
        remains = rw whole at inv.remains;
        writing = log_next log log' _ entries e more did.written w;
        counting = omega (arith, c);
        drawing = triangles_some triangles triangles' _ count count' (ears_of (e ∷ [])) (ears_of more) did.ears did.offered (rw ears_cons at d);
        offering = omega (arith, o, did.offered, ap length (ears_cons e more), length-append (ears_of (e ∷ [])) (ears_of more));
      }

pub clip_end : (fs : List Flat) (ring₀ log₀ : List ℕ) (n : ℕ) (triangles₀ ring log triangles : List ℕ) (from entries count : ℕ)
    → Clipping fs ring₀ log₀ n triangles₀ ring log triangles from entries count → clip_step fs (drop from ring) ≡ None
    → Clips (clip fs (length ring₀) ring₀) ring log₀ log n triangles₀ triangles (record { left = length ring - from; entries = entries; triangles = count })
unfolding ears_of
clip_end fs ring₀ log₀ n triangles₀ ring log triangles from entries count inv e =
    let done = clip_stop fs (drop from ring) e (length ring₀ - from) in
    let r : drop from ring ≡ (clip fs (length ring₀) ring₀).ring = rw done at inv.remains in
    let back : length ring - (length ring - from) ≡ from = omega (arith, inv.long, inv.fewer) in
    record {
      remains = rw back r;
      size = sym (length-drop from ring) ∙ ap length r;
      written = log_end log _ entries (rw done at inv.writing);
      counted = sym (add-zero entries) ∙ (rw done at inv.counting);
      ears = triangle_end triangles _ count (rw done at inv.drawing);
      offered = sym (add-zero count) ∙ (rw done at inv.offering);
    }
