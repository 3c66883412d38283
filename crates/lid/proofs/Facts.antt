-- Facts of the lid beside its areas: the triangles are as many as the price list says (T of section 6); the ring never has more places than the corners
-- and two per hole; the triangles are at least two fewer; the log is as long as the ring and one entry per hole. Assumes nothing.
use mathlib.Core.Path.{◌≡◌, refl, sym, ◌∙◌, ap, subst}
use mathlib.Core.Bool.{Bool, true, false, ◌&&◌, cond}
use mathlib.Core.List.{List, [], ◌∷◌, ◌++◌, map, reverse}
use Prim.Native.Nat.{ℕ, zero, suc, ◌+◌, ◌-◌, ◌≤◌, ◌<◌, zero-le}
use native.Mathlib.Nat.{add_assoc, zero-add, le_refl, mod-lt}
use native.Mathlib.Omega.{arith}
use lib.Dec.{T, leb, eqb, eqb→eq}
use lib.ListN.{length, get_or, take, drop, length-append, length-take, length-drop, length-map, length-reverse}
use lib.Ieee.{lt}
use borrow.Author.Tests.{leb-false}
use Rattle.std.specs.Prelude.{Option, Some, None}
use Rattle.lists.specs.Each.{Each}
use Rattle.lists.specs.Loops.{first, fold, list, sum_of, count_of, remove_at}
use Rattle.float.specs.Number.{zerof}
use Rattle.float.specs.Signs.{total_less}
use Rattle.face_triangle.specs.Triangles.{Triangle, triangle}
use Rattle.face_triangle.specs.Contract.Triangles.{TriangleLow}
use Rattle.lid.specs.declared.Flat.{Flat}
use Rattle.lid.specs.declared.Bridge.{Bridge}
use Rattle.lid.specs.declared.Cut.{Cut}
use Rattle.lid.specs.Marks.{mark_number}
use Rattle.lid.specs.Log.{Entry, entry, Logged, logged, is_mark, left_over}
use Rattle.lid.specs.Rings.{Hole, too_small, area, right, turn_of, turn_outer, turn_hole, rings_from, holes_from, skipped_from, insert, in_order}
use Rattle.lid.specs.Bridges.{bridge, splice, spliced, bridge_entry, join_all}
use Rattle.lid.specs.Clipping.{before, here, after, is_ear, is_straight, cut_straight, cut_ear, clip_step, clip_by, clip}
use Rattle.lid.specs.Lid.{Lid, ears_of, last_triangle, lid_from, lid_rings, lid_of, one_more, lid_price}
use Rattle.lists.proofs.Lists.{length_list, each_append, each_take, each_drop, each_at, each_reverse_aux}
use Rattle.lists.proofs.Loops.{either, either_by, Below, first_below, fold_keeps}
use Rattle.lid.proofs.Areas.Lid.{BridgeIn, bridge_in, Known, in_order_known, holes_from_known, turn_hole_length}
use Rattle.lid.proofs.Areas.Ring.{remove_at_is}
use Rattle.lid.proofs.Areas.Run.{left_entry, rest_left, hole_ring}

-- ---- sizes

pub remove_at_size : (r : List ℕ) (i : ℕ) → i < length r → suc (length (remove_at i r)) ≡ length r
remove_at_size r i h = ap (λ (l : List ℕ). suc (length l)) (remove_at_is i r) ∙ simp (length-append, length-take, length-drop) (omega arith)

pub splice_size : (r h : List ℕ) (t j : ℕ) → t < length r → j < length h → length (splice r h t j) ≡ length r + length h + 2
unfolding splice
splice_size r h t j ht hj = simp (length-append, length-take, length-drop) (omega arith)

-- ---- the triangles are those of the price list

pub count_of_append : {A : Type 0} (p : A → Bool) (xs ys : List A) → count_of p (xs ++ ys) ≡ count_of p xs + count_of p ys
unfolding count_of
count_of_append p [] ys = sym (zero-add (count_of p ys))
count_of_append p (x ∷ xs) ys = ap (λ (n : ℕ). cond (p x) 1 0 + n) (count_of_append p xs ys) ∙ sym (add_assoc (cond (p x) 1 0) (count_of p xs) (count_of p ys))

pub left_over_append : (xs ys : List Entry) → left_over (xs ++ ys) ≡ left_over xs ++ left_over ys
unfolding left_over
left_over_append [] ys = refl
left_over_append (e ∷ xs) ys = go (is_mark 3 e) (left_over_append xs ys)
  where
    go : (b : Bool) → left_over (xs ++ ys) ≡ left_over xs ++ left_over ys
        → cond b (e.a ∷ left_over (xs ++ ys)) (left_over (xs ++ ys)) ≡ cond b (e.a ∷ left_over xs) (left_over xs) ++ left_over ys
    go true h = ap (λ (l : List ℕ). e.a ∷ l) h
    go false h = h

ears_count : (l : List Entry) → length (ears_of l) ≡ count_of (is_mark 1) l
unfolding ears_of count_of is_mark
ears_count [] = refl
ears_count (e ∷ l) = go (eqb e.mark 1) (ears_count l)
  where
    go : (b : Bool) → length (ears_of l) ≡ count_of (is_mark 1) l
        → length (cond b (triangle e.a e.b e.c ∷ ears_of l) (ears_of l)) ≡ cond b 1 0 + count_of (is_mark 1) l
    go true h = omega arith
    go false h = omega arith

ears_most : (l : List Entry) → length (ears_of l) ≤ length l
unfolding ears_of
ears_most [] = zero-le
ears_most (e ∷ l) =
    either (λ (ts : List Triangle). length ts ≤ suc (length l)) (eqb e.mark 1) {x = triangle e.a e.b e.c ∷ ears_of l} {y = ears_of l} (omega (arith, ears_most l)) (omega (arith, ears_most l))

-- a log that adds no mark m: neither an ear nor a corner left
record Quiet (l : List Entry) : Type 0 where
  ears : count_of (is_mark 1) l ≡ 0
  left : left_over l ≡ []

abbrev QuietEntry : Entry → Type 0
QuietEntry e = (eqb e.mark 1 ≡ false) × (eqb e.mark 3 ≡ false)

quiet_nil : Quiet []
unfolding count_of left_over
quiet_nil = record { ears = refl; left = refl }

quiet_cons : (e : Entry) (l : List Entry) → QuietEntry e → Quiet l → Quiet (e ∷ l)
unfolding count_of left_over is_mark
quiet_cons e l q h = record {
  ears = ap (λ (b : Bool). cond b 1 0 + count_of (is_mark 1) l) q.0 ∙ zero-add (count_of (is_mark 1) l) ∙ h.ears;
  left = ap (λ (b : Bool). cond b (e.a ∷ left_over l) (left_over l)) q.1 ∙ h.left;
}

none_price : (fs : List Flat) → 0 ≡ lid_price fs (entry 7 0 0 0 ∷ [])
unfolding lid_price count_of is_mark left_over one_more
none_price fs = refl

module _ (fs : List Flat) where
  skipped_quiet : (k : ℕ) (rs : List (List ℕ)) → Quiet (skipped_from fs k rs)
  unfolding skipped_from
  skipped_quiet k [] = quiet_nil
  skipped_quiet k (r ∷ rs) = either Quiet (too_small fs r) (quiet_cons (entry 6 k 0 0) (skipped_from fs (suc k) rs) (refl, refl) (skipped_quiet (suc k) rs)) (skipped_quiet (suc k) rs)

  join_all_quiet : (hs : List Hole) (r : List ℕ) → Quiet (join_all fs hs r).log
  unfolding join_all logged bridge_entry
  join_all_quiet [] r = quiet_nil
  join_all_quiet (h ∷ hs) r = quiet_cons _ _ (go (bridge fs r h.ring)) (join_all_quiet hs (spliced r h.ring (bridge fs r h.ring)))
    where
      go : (b : Option Bridge) → QuietEntry (bridge_entry h.number b)
      go None = (refl, refl)
      go (Some b) = (refl, refl)

  -- the clipping cuts at a place of a ring of more than three, and no entry of it is marked 3
  abbrev pub StepOk : List ℕ → Option Cut → Type 0
  StepOk r (Some cut) = (eqb (mark_number cut.mark) 3 ≡ false) × (cut.place.0 < length r) × (3 < length r)
  StepOk r None = Unit {0}

  cut_straight_ok : (r : List ℕ) (f : Option ℕ) → 3 < length r → Below (length r) f → StepOk r (cut_straight f)
  unfolding cut_straight
  cut_straight_ok r (Some i) m b = (refl, b, m)
  cut_straight_ok r None m b = tt

  cut_ear_ok : (r : List ℕ) (f : Option ℕ) → 3 < length r → Below (length r) f → StepOk r (cut_ear fs r f)
  unfolding cut_ear
  cut_ear_ok r (Some i) m b = (refl, b, m)
  cut_ear_ok r None m b = cut_straight_ok r (first (is_straight fs r) (length r) 0) m (first_below (is_straight fs r) (length r))

  pub clip_step_ok : (r : List ℕ) → StepOk r (clip_step fs r)
  unfolding clip_step
  clip_step_ok r =
      either_by (StepOk r) (leb (length r) 3) {x = None} {y = cut_ear fs r (first (is_ear fs r) (length r) 0)} (λ h. tt)
      (λ h. cut_ear_ok r (first (is_ear fs r) (length r) 0) (leb-false (length r) 3 h) (first_below (is_ear fs r) (length r)))

  -- what holds of a clipping that stops, and through a cut, holds of the clipping
  clip_ind : (P : List ℕ → Logged → Type 0) → ((r : List ℕ) → P r (record { ring = r; log = [] }))
      → ((r : List ℕ) (mark i : ℕ) (l : Logged) → eqb mark 3 ≡ false → i < length r → 3 < length r → P (remove_at i r) l → P r (logged (entry mark (before r i) (here r i) (after r i)) l))
      → (n : ℕ) (r : List ℕ) → P r (clip fs n r)
  unfolding clip clip_by
  clip_ind P stops cuts zero r = stops r
  clip_ind P stops cuts (suc n) r = go (clip_ind P stops cuts n) (clip_step fs r) (clip_step_ok r)
    where
      go : ((s : List ℕ) → P s (clip fs n s)) → (s : Option Cut) → StepOk r s → P r (clip_by (λ t. clip fs n t) r s)
      go ih (Some cut) q =
          let i = cut.place.0 in
          cuts r (mark_number cut.mark) i (clip fs n (remove_at i r)) q.0 q.1 q.2 (ih (remove_at i r))
      go ih None q = stops r

  clip_left : (n : ℕ) (r : List ℕ) → left_over (clip fs n r).log ≡ []
  unfolding logged left_over is_mark
  clip_left = clip_ind (λ r l. left_over l.log ≡ []) (λ r. refl)
      (λ r mark i l q h m p. ap (λ (b : Bool). cond b (before r i ∷ left_over l.log) (left_over l.log)) q ∙ p)

  pub clip_size : (n : ℕ) (r : List ℕ) → length (clip fs n r).log + length (clip fs n r).ring ≡ length r
  unfolding logged
  clip_size = clip_ind (λ r l. length l.log + length l.ring ≡ length r) (λ r. zero-add (length r))
      (λ r mark i l q h m p. omega (arith, remove_at_size r i h))

  last_most : (r : List ℕ) → length (last_triangle fs r) ≤ length r - 2
  unfolding last_triangle
  last_most r = go (eqb (length r) 3) (lt zerof (turn_of fs (get_or r 0 0) (get_or r 1 0) (get_or r 2 0))) (eqb→eq (length r) 3)
    where
      go : (b c : Bool) → (T b → length r ≡ 3) → length (cond (b && c) (triangle (get_or r 0 0) (get_or r 1 0) (get_or r 2 0) ∷ []) []) ≤ length r - 2
      go false c h = zero-le
      go true false h = zero-le
      go true true h = let e = h tt in omega arith

  -- a ring is cut into at most two triangles fewer than it has places
  clip_most : (n : ℕ) (r : List ℕ) → length (clip fs n r).log + length (last_triangle fs (clip fs n r).ring) ≤ length r - 2
  unfolding logged
  clip_most = clip_ind (λ r l. length l.log + length (last_triangle fs l.ring) ≤ length r - 2) (λ r. omega (arith, last_most r))
      (λ r mark i l q h m p. omega (arith, remove_at_size r i h))

  left_ears : (r : List ℕ) → count_of (is_mark 1) (map left_entry r) ≡ 0
  unfolding count_of is_mark
  left_ears [] = refl
  left_ears (a ∷ r) = zero-add (count_of (is_mark 1) (map left_entry r)) ∙ left_ears r

  last_count : (r : List ℕ) → length (last_triangle fs r) ≡ one_more fs r
  unfolding last_triangle one_more
  last_count r = go (eqb (length r) 3 && lt zerof (turn_of fs (get_or r 0 0) (get_or r 1 0) (get_or r 2 0)))
    where
      go : (b : Bool) → length (cond b (triangle (get_or r 0 0) (get_or r 1 0) (get_or r 2 0) ∷ []) []) ≡ cond b 1 0
      go true = refl
      go false = refl

  lid_from_triangles : (s : List Entry) (j : Logged) → Quiet s → Quiet j.log → length (lid_from fs s j).triangles ≡ lid_price fs (lid_from fs s j).log
  unfolding lid_from lid_price
  lid_from_triangles s j qs qj =
      let k = clip fs (length j.ring) j.ring in
      let left : List Entry = map left_entry k.ring in
      let ears : count_of (is_mark 1) (s ++ j.log ++ k.log ++ left) ≡ count_of (is_mark 1) k.log =
      count_of_append (is_mark 1) (s ++ j.log ++ k.log) left
      ∙ ap (λ (n : ℕ). n + count_of (is_mark 1) left) (count_of_append (is_mark 1) (s ++ j.log) k.log)
      ∙ ap (λ (n : ℕ). n + count_of (is_mark 1) k.log + count_of (is_mark 1) left) (count_of_append (is_mark 1) s j.log)
      ∙ (let a = qs.ears in let b = qj.ears in let c = left_ears k.ring in omega arith) in
      let rest : left_over (s ++ j.log ++ k.log ++ left) ≡ k.ring =
      left_over_append (s ++ j.log ++ k.log) left
      ∙ ap (λ (l : List ℕ). l ++ left_over left) (left_over_append (s ++ j.log) k.log)
      ∙ ap (λ (l : List ℕ). l ++ left_over k.log ++ left_over left) (left_over_append s j.log)
      ∙ ap (λ (l : List ℕ). l ++ left_over j.log ++ left_over k.log ++ left_over left) qs.left
      ∙ ap (λ (l : List ℕ). l ++ left_over k.log ++ left_over left) qj.left
      ∙ ap (λ (l : List ℕ). l ++ left_over left) (clip_left (length j.ring) j.ring)
      ∙ rest_left k.ring in
      length-append (ears_of k.log) (last_triangle fs k.ring)
      ∙ ap (λ (n : ℕ). n + length (last_triangle fs k.ring)) (ears_count k.log ∙ sym ears)
      ∙ ap (λ (n : ℕ). count_of (is_mark 1) (s ++ j.log ++ k.log ++ left) + n) (last_count k.ring ∙ ap (one_more fs) (sym rest))

  -- T
  pub lid_triangles : (c : ℕ) (holes : List ℕ) → length (lid_of fs c holes).triangles ≡ lid_price fs (lid_of fs c holes).log
  unfolding lid_of lid_rings
  lid_triangles c holes =
      let outer = list (λ i. i) c 0 in
      let rings = rings_from c holes in
      let hs = in_order fs (holes_from fs 0 rings) in
      let whole : Lid = lid_from fs (skipped_from fs 0 rings) (join_all fs hs (turn_outer fs outer)) in
      either (λ (l : Lid). length l.triangles ≡ lid_price fs l.log) (too_small fs outer) {x = record { log = entry 7 0 0 0 ∷ []; triangles = [] }} {y = whole}
      none (lid_from_triangles (skipped_from fs 0 rings) (join_all fs hs (turn_outer fs outer)) (skipped_quiet 0 rings) (join_all_quiet hs (turn_outer fs outer)))
    where
      none : 0 ≡ lid_price fs (entry 7 0 0 0 ∷ [])
      none = none_price fs

-- ---- the ring and the log

-- what a hole adds to the ring
abbrev pub adds : Hole → ℕ
adds h = length h.ring + 2

module _ (fs : List Flat) (hole : ℕ → List ℕ) where
  pub join_all_ring : (hs : List Hole) → Each (Known fs hole) hs → (r : List ℕ) → length (join_all fs hs r).ring ≤ length r + sum_of adds hs
  unfolding join_all logged spliced sum_of
  join_all_ring [] q r = omega arith
  join_all_ring (h ∷ hs) q r = go (join_all_ring hs q.1) (bridge fs r h.ring) (bridge_in fs r h.ring q.0.some)
    where
      go : ((s : List ℕ) → length (join_all fs hs s).ring ≤ length s + sum_of adds hs) → (b : Option Bridge) → BridgeIn fs r h.ring b
          → length (join_all fs hs (spliced r h.ring b)).ring ≤ length r + (adds h + sum_of adds hs)
      go ih None b = omega (arith, ih r)
      go ih (Some joint) b = let t = joint.place.0 in let j = joint.from.0 in omega (arith, ih (splice r h.ring t j), splice_size r h.ring t j b.0 b.1)

  pub join_all_log : (hs : List Hole) (r : List ℕ) → length (join_all fs hs r).log ≡ length hs
  unfolding join_all logged
  join_all_log [] r = refl
  join_all_log (h ∷ hs) r = ap suc (join_all_log hs (spliced r h.ring (bridge fs r h.ring)))

insert_sum : (fs : List Flat) (f : Hole → ℕ) (h : Hole) (gs : List Hole) → sum_of f (insert fs h gs) ≡ f h + sum_of f gs
unfolding insert sum_of
insert_sum fs f h [] = refl
insert_sum fs f h (g ∷ gs) =
    either (λ (l : List Hole). sum_of f l ≡ f h + (f g + sum_of f gs)) (total_less (right fs g.ring) (right fs h.ring)) {x = h ∷ g ∷ gs} {y = g ∷ insert fs h gs}
    refl (omega (arith, insert_sum fs f h gs))

in_order_from : (fs : List Flat) (f : Hole → ℕ) (hs sorted : List Hole) → sum_of f (fold (λ s h. insert fs h s) sorted hs) ≡ sum_of f sorted + sum_of f hs
unfolding fold sum_of
in_order_from fs f [] sorted = omega arith
in_order_from fs f (h ∷ hs) sorted = omega (arith, in_order_from fs f hs (insert fs h sorted), insert_sum fs f h sorted)

pub in_order_sum : (fs : List Flat) (f : Hole → ℕ) (hs : List Hole) → sum_of f (in_order fs hs) ≡ sum_of f hs
unfolding in_order sum_of
in_order_sum fs f hs = in_order_from fs f hs [] ∙ zero-add (sum_of f hs)

pub holes_from_sum : (fs : List Flat) (k from : ℕ) (counts : List ℕ) → sum_of adds (holes_from fs k (rings_from from counts)) ≤ sum_of (λ n. n + 2) counts
unfolding holes_from rings_from sum_of
holes_from_sum fs k from [] = le_refl 0
holes_from_sum fs k from (n ∷ counts) =
    let r = list (λ i. i) n from in
    let more = holes_from fs (suc k) (rings_from (from + n) counts) in
    let ih = holes_from_sum fs (suc k) (from + n) counts in
    either (λ (l : List Hole). sum_of adds l ≤ n + 2 + sum_of (λ n. n + 2) counts) (too_small fs r) {x = more} {y = record { number = k; ring = turn_hole fs r } ∷ more}
    (omega (arith, ih)) (omega (arith, ih, turn_hole_length fs r, length_list (λ i. i) n from))

-- every hole is skipped or to be joined
pub holes_each : (fs : List Flat) (k : ℕ) (rs : List (List ℕ)) → length (skipped_from fs k rs) + sum_of (λ h. 1) (holes_from fs k rs) ≡ length rs
unfolding skipped_from holes_from sum_of
holes_each fs k [] = refl
holes_each fs k (r ∷ rs) = go (too_small fs r) (holes_each fs (suc k) rs)
  where
    go : (b : Bool) → length (skipped_from fs (suc k) rs) + sum_of (λ h. 1) (holes_from fs (suc k) rs) ≡ length rs
        → length (cond b (entry 6 k 0 0 ∷ skipped_from fs (suc k) rs) (skipped_from fs (suc k) rs))
        + sum_of (λ h. 1) (cond b (holes_from fs (suc k) rs) (record { number = k; ring = turn_hole fs r } ∷ holes_from fs (suc k) rs)) ≡ suc (length rs)
    go true h = omega arith
    go false h = omega arith

count_all : (hs : List Hole) → length hs ≡ sum_of (λ h. 1) hs
unfolding sum_of
count_all [] = refl
count_all (h ∷ hs) = omega (arith, count_all hs)

pub rings_count : (from : ℕ) (counts : List ℕ) → length (rings_from from counts) ≡ length counts
unfolding rings_from
rings_count from [] = refl
rings_count from (n ∷ counts) = ap suc (rings_count (from + n) counts)

pub turn_outer_size : (fs : List Flat) (r : List ℕ) → length (turn_outer fs r) ≡ length r
unfolding turn_outer
turn_outer_size fs r = either (λ (s : List ℕ). length s ≡ length r) (lt (area fs r) zerof) (length-reverse r) refl

module _ (fs : List Flat) (c : ℕ) (holes : List ℕ) where
  order : List Hole
  order = in_order fs (holes_from fs 0 (rings_from c holes))

  -- the ring with all holes joined
  abbrev pub joined_all : Logged
  joined_all = join_all fs (in_order fs (holes_from fs 0 (rings_from c holes))) (turn_outer fs (list (λ i. i) c 0))

  order_known : Each (Known fs (hole_ring fs (rings_from c holes))) order
  unfolding order
  order_known =
      let hole = hole_ring fs (rings_from c holes) in
      in_order_known fs hole (holes_from fs 0 (rings_from c holes)) (holes_from_known fs hole 0 (rings_from c holes) (λ i. ap hole (zero-add i)))

  -- at most 576 places, by the limits of section 1
  pub ring_size : length joined_all.ring ≤ c + sum_of (λ n. n + 2) holes
  unfolding order
  ring_size =
      let outer = turn_outer fs (list (λ i. i) c 0) in
      omega (arith, join_all_ring fs (hole_ring fs (rings_from c holes)) order order_known outer, turn_outer_size fs (list (λ i. i) c 0), length_list (λ i. i) c 0, in_order_sum fs adds (holes_from fs 0 (rings_from c holes)), holes_from_sum fs 0 c holes)

  lid_from_log : (s : List Entry) (j : Logged) → length (lid_from fs s j).log ≡ length s + length j.log + length j.ring
  unfolding lid_from
  lid_from_log s j =
      let k = clip fs (length j.ring) j.ring in
      let left : List Entry = map left_entry k.ring in
      length-append (s ++ j.log ++ k.log) left
      ∙ omega (arith, length-append (s ++ j.log) k.log, length-append s j.log, length-map k.ring left_entry, clip_size fs (length j.ring) j.ring)

  -- the entries of a lid whose outer ring is not too small
  pub open_size : length (lid_from fs (skipped_from fs 0 (rings_from c holes)) joined_all).log ≤ c + sum_of (λ n. n + 2) holes + length holes
  unfolding order
  open_size =
      let outer = list (λ i. i) c 0 in
      let skipped = skipped_from fs 0 (rings_from c holes) in
      omega (arith, lid_from_log skipped joined_all, ring_size, join_all_log fs (hole_ring fs (rings_from c holes)) order (turn_outer fs outer), count_all order, in_order_sum fs (λ h. 1) (holes_from fs 0 (rings_from c holes)), holes_each fs 0 (rings_from c holes), rings_count c holes)

  -- a lid's log is the one entry marked 7, or at most as long as that
  pub log_size : length (lid_of fs c holes).log ≤ 1 + (c + sum_of (λ n. n + 2) holes + length holes - 1)
  unfolding lid_of lid_rings
  log_size =
      let skipped = skipped_from fs 0 (rings_from c holes) in
      either (λ (l : Lid). length l.log ≤ 1 + (c + sum_of (λ n. n + 2) holes + length holes - 1)) (too_small fs (list (λ i. i) c 0))
      {x = record { log = entry 7 0 0 0 ∷ []; triangles = [] }} {y = lid_from fs skipped joined_all} (omega arith) (omega (arith, open_size))

  -- a lid has no triangle, or at most two fewer than its ring has places
  pub lid_most : length (lid_of fs c holes).triangles ≤ c + sum_of (λ n. n + 2) holes - 2
  unfolding lid_of lid_rings lid_from
  lid_most =
      let skipped = skipped_from fs 0 (rings_from c holes) in
      let k = clip fs (length joined_all.ring) joined_all.ring in
      either (λ (l : Lid). length l.triangles ≤ c + sum_of (λ n. n + 2) holes - 2) (too_small fs (list (λ i. i) c 0))
      {x = record { log = entry 7 0 0 0 ∷ []; triangles = [] }} {y = lid_from fs skipped joined_all} zero-le
      (omega (arith, length-append (ears_of k.log) (last_triangle fs k.ring), ears_most k.log, clip_most fs (length joined_all.ring) joined_all.ring, ring_size))

-- ---- the triangles' corners are corners of the outline

abbrev Low : ℕ → List ℕ → Type 0
Low n r = Each (λ i. i < n) r

list_low : (n c k : ℕ) → k + c ≤ n → Low n (list (λ i. i) c k)
unfolding list
list_low n zero k h = tt
list_low n (suc c) k h = (omega arith, list_low n c (suc k) (omega arith))

-- the number of a list of corner counts
abbrev pub total : List ℕ → ℕ
total counts = sum_of (λ n. n) counts

rings_low : (n from : ℕ) (counts : List ℕ) → from + total counts ≤ n → Each (Low n) (rings_from from counts)
unfolding rings_from sum_of
rings_low n from [] h = tt
rings_low n from (c ∷ counts) h = (list_low n c from (omega arith), rings_low n (from + c) counts (omega arith))

remove_at_low : (n : ℕ) (r : List ℕ) (i : ℕ) → Low n r → Low n (remove_at i r)
remove_at_low n r i q = subst (Low n) (sym (remove_at_is i r)) (each_append (λ i. i < n) (take i r) (drop (suc i) r) (each_take (λ i. i < n) i r q) (each_drop (λ i. i < n) (suc i) r q))

splice_low : (n : ℕ) (r h : List ℕ) (t j : ℕ) → t < length r → Low n r → Low n h → Low n (splice r h t j)
unfolding splice
splice_low n r h t j ht qr qh =
    let P : ℕ → Type 0 = λ i. i < n in
    each_append P (take (t + 1) r ++ drop j h ++ take (j + 1) h) (get_or r t 0 ∷ drop (t + 1) r)
    (each_append P (take (t + 1) r ++ drop j h) (take (j + 1) h)
    (each_append P (take (t + 1) r) (drop j h) (each_take P (t + 1) r qr) (each_drop P j h qh)) (each_take P (j + 1) h qh))
    (each_at (λ i. i < n) r t 0 ht qr, each_drop P (t + 1) r qr)

abbrev pub EntryLow : ℕ → Entry → Type 0
EntryLow n e = (e.a < n) × (e.b < n) × (e.c < n)

ears_low : (n : ℕ) (l : List Entry) → Each (EntryLow n) l → Each (TriangleLow n) (ears_of l)
unfolding ears_of
ears_low n [] q = tt
ears_low n (e ∷ l) q =
    either (Each (TriangleLow n)) (eqb e.mark 1) {x = triangle e.a e.b e.c ∷ ears_of l} {y = ears_of l} (q.0, ears_low n l q.1) (ears_low n l q.1)

module _ (fs : List Flat) (n : ℕ) where
  turn_outer_low : (r : List ℕ) → Low n r → Low n (turn_outer fs r)
  unfolding turn_outer
  turn_outer_low r q = either (Low n) (lt (area fs r) zerof) {x = reverse r} {y = r} (each_reverse_aux (λ i. i < n) r [] q tt) q

  turn_hole_low : (r : List ℕ) → Low n r → Low n (turn_hole fs r)
  unfolding turn_hole
  turn_hole_low r q = either (Low n) (lt (area fs r) zerof) {x = r} {y = reverse r} q (each_reverse_aux (λ i. i < n) r [] q tt)

  abbrev HoleLow : Hole → Type 0
  HoleLow h = Low n h.ring

  holes_from_low : (k : ℕ) (rs : List (List ℕ)) → Each (Low n) rs → Each HoleLow (holes_from fs k rs)
  unfolding holes_from
  holes_from_low k [] q = tt
  holes_from_low k (r ∷ rs) q =
      let more = holes_from fs (suc k) rs in
      either (Each HoleLow) (too_small fs r) {x = more} {y = record { number = k; ring = turn_hole fs r } ∷ more}
      (holes_from_low (suc k) rs q.1) (turn_hole_low r q.0, holes_from_low (suc k) rs q.1)

  insert_low : (h : Hole) (gs : List Hole) → HoleLow h → Each HoleLow gs → Each HoleLow (insert fs h gs)
  unfolding insert
  insert_low h [] k q = (k, tt)
  insert_low h (g ∷ gs) k q =
      either (Each HoleLow) (total_less (right fs g.ring) (right fs h.ring)) {x = h ∷ g ∷ gs} {y = g ∷ insert fs h gs} (k, q) (q.0, insert_low h gs k q.1)

  in_order_low : (hs : List Hole) → Each HoleLow hs → Each HoleLow (in_order fs hs)
  unfolding in_order
  in_order_low hs q = fold_keeps HoleLow (Each HoleLow) (λ sorted h. insert fs h sorted) (λ s h p k. insert_low h s k p) [] hs tt q

  join_all_low : (hole : ℕ → List ℕ) (hs : List Hole) → Each (Known fs hole) hs → Each HoleLow hs → (r : List ℕ) → Low n r → Low n (join_all fs hs r).ring
  unfolding join_all logged spliced
  join_all_low hole [] k q r p = p
  join_all_low hole (h ∷ hs) k q r p =
      join_all_low hole hs k.1 q.1 (spliced r h.ring (bridge fs r h.ring)) (go (bridge fs r h.ring) (bridge_in fs r h.ring k.0.some))
    where
      go : (b : Option Bridge) → BridgeIn fs r h.ring b → Low n (spliced r h.ring b)
      go None b = p
      go (Some joint) b = splice_low n r h.ring joint.place.0 joint.from.0 b.0 p q.0

  clip_low : (f : ℕ) (r : List ℕ) → Low n r → Low n (clip fs f r).ring × Each (EntryLow n) (clip fs f r).log
  unfolding logged
  clip_low = clip_ind fs (λ r l. Low n r → Low n l.ring × Each (EntryLow n) l.log) (λ r q. (q, tt))
      (λ r mark i l m h k ih q.
      let p = ih (remove_at_low n r i q) in
      let some : 0 < length r = omega arith in
      (p.0, ((each_at (λ i. i < n) r _ 0 (mod-lt (i + length r - 1) some) q, each_at (λ i. i < n) r i 0 h q, each_at (λ i. i < n) r _ 0 (mod-lt (i + 1) some) q), p.1)))

  last_low : (r : List ℕ) → Low n r → Each (TriangleLow n) (last_triangle fs r)
  unfolding last_triangle
  last_low r q = go (eqb (length r) 3) (lt zerof (turn_of fs (get_or r 0 0) (get_or r 1 0) (get_or r 2 0))) (eqb→eq (length r) 3)
    where
      go : (b c : Bool) → (T b → length r ≡ 3) → Each (TriangleLow n) (cond (b && c) (triangle (get_or r 0 0) (get_or r 1 0) (get_or r 2 0) ∷ []) [])
      go false c h = tt
      go true false h = tt
      go true true h = let e = h tt in ((each_at (λ i. i < n) r 0 0 (omega arith) q, each_at (λ i. i < n) r 1 0 (omega arith) q, each_at (λ i. i < n) r 2 0 (omega arith) q), tt)

  lid_from_low : (s : List Entry) (j : Logged) → Low n j.ring → Each (TriangleLow n) (lid_from fs s j).triangles
  unfolding lid_from
  lid_from_low s j q =
      let k = clip fs (length j.ring) j.ring in
      let p = clip_low (length j.ring) j.ring q in
      each_append (TriangleLow n) (ears_of k.log) (last_triangle fs k.ring) (ears_low n k.log p.1) (last_low k.ring p.0)

pub lid_corners : (fs : List Flat) (c : ℕ) (holes : List ℕ) → Each (TriangleLow (c + total holes)) (lid_of fs c holes).triangles
unfolding lid_of lid_rings order
lid_corners fs c holes =
    let n = c + total holes in
    let outer = list (λ i. i) c 0 in
    let rs = rings_from c holes in
    let hs = in_order fs (holes_from fs 0 rs) in
    let ring : Low n (join_all fs hs (turn_outer fs outer)).ring =
    join_all_low fs n (hole_ring fs rs) hs (order_known fs c holes) (in_order_low fs n (holes_from fs 0 rs) (holes_from_low fs n 0 rs (rings_low n c holes (le_refl n))))
    (turn_outer fs outer) (turn_outer_low fs n outer (list_low n c 0 (omega arith))) in
    either (λ (l : Lid). Each (TriangleLow n) l.triangles) (too_small fs outer)
    {x = record { log = entry 7 0 0 0 ∷ []; triangles = [] }} {y = lid_from fs (skipped_from fs 0 rs) (join_all fs hs (turn_outer fs outer))}
    tt (lid_from_low fs n (skipped_from fs 0 rs) (join_all fs hs (turn_outer fs outer)) ring)
