-- The lid runs the machine of Run.antt, whatever its flat corners are; so its exact areas agree. Assumes nothing.
use mathlib.Core.Path.{◌≡◌, refl, sym, ◌∙◌, ap, subst}
use mathlib.Core.Bool.{Bool, true, false, not, ◌||◌, cond, true≢false}
use mathlib.Core.List.{List, [], ◌∷◌, ◌++◌, map, append_assoc}
use Prim.Native.Nat.{ℕ, zero, suc, ◌+◌, ◌≤◌, ◌<◌}
use native.Mathlib.Nat.{add-zero, zero-add, add-suc, suc-add}
use native.Mathlib.Omega.{arith}
use lib.Dec.{T, leb, ltb, eqb, nleb→lt, nltb→le}
use lib.ListN.{length, get_or, length-reverse}
use lib.Ieee.{Float, inf, lt, eq}
use lib.IntN.{◌+ℤ◌}
use Rattle.std.specs.Prelude.{Option, Some, None}
use Rattle.lists.specs.Each.{Each}
use Rattle.lists.specs.Loops.{first, list, some, remove_at, next}
use Rattle.float.specs.Number.{zerof, min_area}
use Rattle.float.specs.Signs.{signum, magnitude, total_less}
use Rattle.lid.specs.declared.Flat.{Flat}
use Rattle.lid.specs.declared.Hit.{Hit}
use Rattle.lid.specs.declared.Bridge.{Bridge}
use Rattle.lid.specs.declared.Seen.{Seen}
use Rattle.lid.specs.declared.Cut.{Cut}
use Rattle.lid.specs.Marks.{mark_number}
use Rattle.lid.specs.declared.RingPlace.{RingPlace}
use Rattle.lid.specs.Areas.{AreasAgree, ring_area, outer_term, joined_term, marked_term, left_term}
use Rattle.lid.specs.Log.{Entry, entry, logged, is_mark}
use Rattle.lid.specs.Rings.{place_of, corner, Hole, too_small, turn_outer, turn_hole, rings_from, holes_from, skipped_from, insert, in_order, right, turn, area}
use Rattle.lid.specs.Bridges.{rightmost, hit_edge, hit_at, first_hit, seen_at, visible, is_copy, or_else, copy_of, bridge_at, bridge, splice, spliced, bridge_entry, join_all, passes, meets, no_nearer, inside, slope_of}
use Rattle.lid.specs.Clipping.{before, here, after, is_ear, is_straight, cut_straight, cut_ear, clip_step, clip_by, clip}
use Rattle.lid.specs.Lid.{Lid, lid_from, lid_rings, lid_of}
use Rattle.lists.proofs.Places.{next_in}
use Rattle.lists.proofs.Loops.{either, loop-keeps₀, Below, first_below, fold_keeps}
use Rattle.lid.proofs.Areas.Run.{left_entry, Run, hole_ring, conserved}
use Rattle.lid.proofs.Areas.Run.Run.{rest, skip, lost, link, ear, straight}

-- ---- places

-- what a ray hit, and what was seen, stands at a place of a ring of n
data HitIn (n : ℕ) : Option Hit → Type 0 where
  no_hit : HitIn n None
  hit_at_lem : {h : Hit} → h.end.0 < n → HitIn n (Some h)

record SeenIn (n : ℕ) (s : Seen) : Type 0 where
  place_in : s.place.0 < n

module _ (fs : List Flat) where
  rightmost_in : (h : List ℕ) → 0 < length h → rightmost fs h < length h
  unfolding rightmost
  rightmost_in h p = loop-keeps₀ (λ (k : ℕ). k < length h) _ (length h) 0
      (λ i b s q. either (λ (k : ℕ). k < length h) (total_less (corner fs (get_or h i 0)).x (corner fs (get_or h s 0)).x) q b) p

  hit_edge_in : (n : ℕ) (m a b : Flat) (k j : ℕ) (h : Option Hit) → k < n → j < n → HitIn n h → HitIn n (hit_edge m a b k j h)
  unfolding hit_edge
  hit_edge_in n m a b k j h hk hj q =
      either (HitIn n) (passes m a b) q
      (either (HitIn n) (lt (meets m a b) m.x || no_nearer h (meets m a b)) q (hit_at_lem (either (λ (i : ℕ). i < n) (lt b.x a.x) hk hj)))

  first_hit_in : (r : List ℕ) (m : Flat) → HitIn (length r) (first_hit fs r m)
  unfolding first_hit hit_at
  first_hit_in r m = loop-keeps₀ (HitIn (length r)) (hit_at fs r m) (length r) None
      (λ i b h q. hit_edge_in (length r) m _ _ i (next (length r) i) h b (next_in (length r) i (omega arith)) q) no_hit

  seen_at_in : (r : List ℕ) (m i : Flat) (end : ℕ) (s : Float) (k : ℕ) (best : Seen) → k < length r → SeenIn (length r) best → SeenIn (length r) (seen_at fs r m i end s k best)
  unfolding seen_at
  seen_at_in r m i end s k best hk q =
      let c = get_or r k 0 in
      either (SeenIn (length r)) (eq s zerof || eqb c end || lt (corner fs c).x m.x || not (inside m i (corner fs end) s (corner fs c))) q
      (either (SeenIn (length r)) (lt (slope_of m (corner fs c)) best.slope) (record { place_in = hk }) q)

  visible_in : (r : List ℕ) (m i : Flat) (t : ℕ) → t < length r → visible fs r m i t < length r
  unfolding visible
  visible_in r m i t h =
      let end = get_or r t 0 in
      let s = signum (turn m i (corner fs end)) in
      (loop-keeps₀ (SeenIn (length r)) (seen_at fs r m i end s) (length r) (record { slope = inf false; place = place_of t })
      (λ k b best q. seen_at_in r m i end s k best b q) (record { place_in = h })).place_in

  copy_of_in : (r : List ℕ) (m : Flat) (t : ℕ) → t < length r → copy_of fs r m t < length r
  unfolding copy_of or_else
  copy_of_in r m t h = go (first (is_copy fs r m (get_or r t 0)) (length r) 0) (first_below _ (length r))
    where
      go : (f : Option ℕ) → Below (length r) f → or_else f t < length r
      go (Some k) b = b
      go None b = h

  abbrev pub BridgeIn : List ℕ → List ℕ → Option Bridge → Type 0
  BridgeIn r h None = Unit {0}
  BridgeIn r h (Some b) = (b.place.0 < length r) × (b.from.0 < length h)

  pub bridge_in : (r h : List ℕ) → 0 < length h → BridgeIn r h (bridge fs r h)
  unfolding bridge bridge_at
  bridge_in r h p = go (corner fs (get_or h (rightmost fs h) 0)) (first_hit fs r (corner fs (get_or h (rightmost fs h) 0))) (first_hit_in r (corner fs (get_or h (rightmost fs h) 0)))
    where
      go : (m : Flat) (x : Option Hit) → HitIn (length r) x → BridgeIn r h (bridge_at fs r m (rightmost fs h) x)
      go m None no_hit = tt
      go m (Some x) (hit_at_lem q) = (copy_of_in r m _ (visible_in r m _ x.end.0 q), rightmost_in h p)

  pub turn_hole_length : (r : List ℕ) → length (turn_hole fs r) ≡ length r
  unfolding turn_hole
  turn_hole_length r = either (λ (s : List ℕ). length s ≡ length r) (lt (area fs r) zerof) refl (length-reverse r)

  module _ (hole : ℕ → List ℕ) where
    -- ---- clipping

    -- a step of the clipping is a step of the machine
    abbrev StepRuns : List ℕ → Option Cut → Type 0
    StepRuns r (Some cut) =
        (l : List Entry) → Run hole (remove_at cut.place.0 r) l
        → Run hole r (entry (mark_number cut.mark) (before r cut.place.0) (here r cut.place.0) (after r cut.place.0) ∷ l)
    StepRuns r None = Unit {0}

    cut_straight_runs : (r : List ℕ) → 1 < length r → (f : Option ℕ) → Below (length r) f → StepRuns r (cut_straight f)
    unfolding cut_straight
    cut_straight_runs r m (Some i) b = λ l u. straight i m b u
    cut_straight_runs r m None b = tt

    cut_ear_runs : (r : List ℕ) → 1 < length r → (f : Option ℕ) → Below (length r) f → StepRuns r (cut_ear fs r f)
    unfolding cut_ear
    cut_ear_runs r m (Some i) b = λ l u. ear i m b u
    cut_ear_runs r m None b = cut_straight_runs r m (first (is_straight fs r) (length r) 0) (first_below (is_straight fs r) (length r))

    clip_step_runs : (r : List ℕ) → StepRuns r (clip_step fs r)
    unfolding clip_step
    clip_step_runs r = go (leb (length r) 3) (nleb→lt (length r) 3)
      where
        go : (b : Bool) → (T (not b) → 3 < length r) → StepRuns r (cond b None (cut_ear fs r (first (is_ear fs r) (length r) 0)))
        go true h = tt
        go false h = cut_ear_runs r (let g = h tt in omega arith) (first (is_ear fs r) (length r) 0) (first_below (is_ear fs r) (length r))

    clip_runs : (n : ℕ) (r : List ℕ) (l : List Entry) → Run hole (clip fs n r).ring l → Run hole r ((clip fs n r).log ++ l)
    unfolding clip clip_by logged
    clip_runs zero r l u = u
    clip_runs (suc n) r l u = go (clip_runs n) (clip_step fs r) (clip_step_runs r) u
      where
        go : ((s : List ℕ) (l : List Entry) → Run hole (clip fs n s).ring l → Run hole s ((clip fs n s).log ++ l))
            → (s : Option Cut) → StepRuns r s → Run hole (clip_by (λ t. clip fs n t) r s).ring l → Run hole r ((clip_by (λ t. clip fs n t) r s).log ++ l)
        go ih (Some cut) step u = step ((clip fs n (remove_at cut.place.0 r)).log ++ l) (ih (remove_at cut.place.0 r) l u)
        go ih None step u = u

    -- ---- joining

    -- a hole to join is the ring of its number, and has corners
    pub record Known (h : Hole) : Type 0 where
      pub its : h.ring ≡ hole h.number
      pub some : 0 < length h.ring

    join_all_runs : (hs : List Hole) → Each Known hs → (r : List ℕ) (l : List Entry) → Run hole (join_all fs hs r).ring l → Run hole r ((join_all fs hs r).log ++ l)
    unfolding join_all logged spliced bridge_entry
    join_all_runs [] q r l u = u
    join_all_runs (h ∷ hs) q r l u = go (join_all_runs hs q.1) (bridge fs r h.ring) (bridge_in r h.ring q.0.some) u
      where
        go : ((s : List ℕ) (l : List Entry) → Run hole (join_all fs hs s).ring l → Run hole s ((join_all fs hs s).log ++ l))
            → (b : Option Bridge) → BridgeIn r h.ring b → Run hole (join_all fs hs (spliced r h.ring b)).ring l
            → Run hole r (bridge_entry h.number b ∷ ((join_all fs hs (spliced r h.ring b)).log ++ l))
        go ih None b u = lost h.number (ih r l u)
        go ih (Some joint) b u =
            let t = joint.place.0 in
            let j = joint.from.0 in
            link h.number t j b.0 (subst (λ (s : List ℕ). j < length s) q.0.its b.1)
            (subst (λ (s : List ℕ). Run hole (splice r s t j) ((join_all fs hs (splice r h.ring t j)).log ++ l)) q.0.its (ih (splice r h.ring t j) l u))

    -- ---- the holes to join, in their order

    insert_known : (h : Hole) (gs : List Hole) → Known h → Each Known gs → Each Known (insert fs h gs)
    unfolding insert
    insert_known h [] k q = (k, tt)
    insert_known h (g ∷ gs) k q =
        either (Each Known) (total_less (right fs g.ring) (right fs h.ring)) {x = h ∷ g ∷ gs} {y = g ∷ insert fs h gs} (k, q) (q.0, insert_known h gs k q.1)

    pub in_order_known : (hs : List Hole) → Each Known hs → Each Known (in_order fs hs)
    unfolding in_order
    in_order_known hs q = fold_keeps Known (Each Known) (λ sorted h. insert fs h sorted) (λ s h p k. insert_known h s k p) [] hs tt q

    pub holes_from_known : (k : ℕ) (rs : List (List ℕ)) → ((i : ℕ) → hole (k + i) ≡ turn_hole fs (get_or rs i [])) → Each Known (holes_from fs k rs)
    unfolding holes_from too_small
    holes_from_known k [] h = tt
    holes_from_known k (r ∷ rs) h =
        go (holes_from_known (suc k) rs (λ i. ap hole (suc-add k i ∙ sym (add-suc k i)) ∙ h (suc i))) (ltb (length r) 3) (lt (magnitude (area fs r)) min_area) (nltb→le (length r) 3)
      where
        go : Each Known (holes_from fs (suc k) rs) → (b c : Bool) → (T (not b) → 3 ≤ length r)
            → Each Known (cond (b || c) (holes_from fs (suc k) rs) (record { number = k; ring = turn_hole fs r } ∷ holes_from fs (suc k) rs))
        go m true c p = m
        go m false true p = m
        go m false false p =
            (record { its = sym (ap hole (sym (add-zero k)) ∙ h 0); some = let l = turn_hole_length r in let g = p tt in omega arith }, m)

    -- ---- the holes skipped

    skipped_from_runs : (k : ℕ) (rs : List (List ℕ)) (r : List ℕ) (l : List Entry) → Run hole r l → Run hole r (skipped_from fs k rs ++ l)
    unfolding skipped_from
    skipped_from_runs k [] r l u = u
    skipped_from_runs k (s ∷ rs) r l u = go (skipped_from_runs (suc k) rs r l u) (too_small fs s)
      where
        go : Run hole r (skipped_from fs (suc k) rs ++ l) → (b : Bool)
            → Run hole r (cond b (entry 6 k 0 0 ∷ skipped_from fs (suc k) rs) (skipped_from fs (suc k) rs) ++ l)
        go u true = skip k u
        go u false = u

    -- ---- the whole

    lid_from_runs : (rs : List (List ℕ)) (hs : List Hole) → Each Known hs → (r : List ℕ) → Run hole r (lid_from fs (skipped_from fs 0 rs) (join_all fs hs r)).log
    unfolding lid_from
    lid_from_runs rs hs q r =
        let j = join_all fs hs r in
        let k = clip fs (length j.ring) j.ring in
        let left : List Entry = map left_entry k.ring in
        let u : Run hole r (skipped_from fs 0 rs ++ (j.log ++ (k.log ++ left))) =
        skipped_from_runs 0 rs r _ (join_all_runs hs q r _ (clip_runs (length j.ring) j.ring left rest)) in
        subst (Run hole r) (sym (append_assoc (skipped_from fs 0 rs ++ j.log) k.log left ∙ append_assoc (skipped_from fs 0 rs) j.log (k.log ++ left))) u

  -- ---- the law of the lid, of c outer corners and holes of the given counts

  pub lid_conserves : (c : ℕ) (holes : List ℕ) → some (is_mark 7) (lid_of fs c holes).log ≡ false
      → AreasAgree fs c holes (lid_of fs c holes).log
  unfolding lid_of lid_rings outer_term some is_mark
  lid_conserves c holes = go (too_small fs outer)
    where
      outer : List ℕ
      outer = list (λ i. i) c 0

      rings : List (List ℕ)
      rings = rings_from c holes

      hole : ℕ → List ℕ
      hole = hole_ring fs rings

      cut_whole : Lid
      cut_whole = lid_from fs (skipped_from fs 0 rings) (join_all fs (in_order fs (holes_from fs 0 rings)) (turn_outer fs outer))

      runs : Run hole (turn_outer fs outer) cut_whole.log
      runs =
          lid_from_runs hole rings (in_order fs (holes_from fs 0 rings))
          (in_order_known hole (holes_from fs 0 rings) (holes_from_known hole 0 rings (λ i. ap hole (zero-add i))))
          (turn_outer fs outer)

      none : Lid
      none = record { log = entry 7 0 0 0 ∷ []; triangles = [] }

      go : (b : Bool) → some (is_mark 7) (cond b none cut_whole).log ≡ false
          → ring_area fs (turn_outer fs outer) +ℤ joined_term fs rings (cond b none cut_whole).log
          ≡ marked_term fs 1 (cond b none cut_whole).log +ℤ marked_term fs 2 (cond b none cut_whole).log +ℤ left_term fs (cond b none cut_whole).log
      go true t = absurd (true≢false t)
      go false t = conserved fs rings runs
