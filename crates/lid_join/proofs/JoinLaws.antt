-- Holes joined to a ring in place, one after the other. Assumes nothing.
use mathlib.Core.Path.{◌≡◌, refl, sym, ap, ◌∙◌}
use mathlib.Core.List.{List, [], ◌∷◌, ◌++◌, map}
use Prim.Native.Nat.{ℕ, ◌+◌, ◌-◌, ◌<◌, ◌≤◌, ◌^◌}
use native.Mathlib.Numerals.{add-one}
use native.Mathlib.Omega.{arith}
use lib.ListN.{length, get_or, take, drop, drop_of_length-le}
use lib.Seq.{take-take, take_at, drop_at, length-take-le, drop-cons}
use Rattle.std.specs.Prelude.{Option, Some, None}
use Rattle.lists.specs.Each.{Each}
use Rattle.lists.specs.Loops.{fold, sum_of, over}
use Rattle.lid.specs.declared.Flat.{Flat}
use Rattle.lid.specs.declared.Bridge.{Bridge}
use Rattle.lid.specs.Log.{entry, Logged, logged}
use Rattle.lid.specs.Rings.{turn_hole}
use Rattle.lid.specs.Bridges.{bridge, splice, spliced, bridge_entry, join_all}
use Rattle.lid.specs.Contract.Written.{log_with}
use Rattle.lid_hole.specs.Contract.Holes.{hole_corners, hole_at, holes_over, Joinable}
use Rattle.lid_join.specs.Contract.Joined.{Joins, JoinsAll}
use Rattle.lid.proofs.Areas.Lid.{BridgeIn, bridge_in}
use Rattle.lid.proofs.Facts.{splice_size}
use Rattle.lid_hole.proofs.HoleLaws.{hole_size}
use Rattle.lid_log.proofs.RecordLaws.{log_next, log_end}
use Rattle.lists.proofs.Buffers.{over_is, over_front, over_behind, behind_later}

-- ---- one hole

-- a joint stands at a place of the ring and a place of the hole
joint_in : (fs : List Flat) (ring hole : List ℕ) (b : Bridge) → 0 < length hole → bridge fs ring hole ≡ Some b → (b.place.0 < length ring) × (b.from.0 < length hole)
joint_in fs ring hole b h e = rw e at (bridge_in fs ring hole h)

module _ (fs : List Flat) (ring hole : List ℕ) (m : ℕ) (fit : (0 < length hole) × (m + length hole + 2 ≤ length ring) × (length ring < 2 ^ 32)) where
  pub front_fits : m ≤ length ring
  front_fits = omega (arith, fit.1)

  -- what `bridge` answers
  module _ (b : Option Bridge) (e : b ≡ bridge fs (take m ring) hole) where
    module _ (to : Bridge) (given : b ≡ Some to) where
      joint : (to.place.0 < m) × (to.from.0 < length hole)
      joint =
          let p = joint_in fs (take m ring) hole to fit.0 (sym e ∙ given) in
          (omega (arith, p.0, length-take-le m ring front_fits), p.1)

      pub joint_low : (to.place.0 < 2 ^ 32) × (to.from.0 < 2 ^ 32)
      joint_low = (omega (arith, joint.0, front_fits, fit.2), omega (arith, joint.1, fit.1, fit.2))

      pub joint_fits : (to.place.0 + length hole + 2 < length (take (m + length hole + 2) ring)) × (to.from.0 < length hole)
      joint_fits = (omega (arith, joint.0, length-take-le (m + length hole + 2) ring fit.1), joint.1)

      pub join_at : (log log' : List ℕ) (g n : ℕ) (x : List ℕ)
          → x ≡ splice (take (length (take (m + length hole + 2) ring) - (length hole + 2)) (take (m + length hole + 2) ring)) hole to.place.0 to.from.0
          → length x ≡ length (take (m + length hole + 2) ring) → log' ≡ log_with log n (entry 4 g to.place.0 to.from.0 ∷ [])
          → Joins fs (take m ring) hole g ring (x ++ drop (m + length hole + 2) ring) log log' n (m + length hole + 2)
      unfolding spliced bridge_entry
      join_at log log' g n x put same wrote =
          let long : length (take (m + length hole + 2) ring) ≡ m + length hole + 2 = length-take-le (m + length hole + 2) ring fit.1 in
          let k : length (take (m + length hole + 2) ring) - (length hole + 2) ≡ m = omega (arith, long) in
          let is : x ≡ splice (take m ring) hole to.place.0 to.from.0 =
          put
          ∙ ap (λ (r : List ℕ). splice r hole to.place.0 to.from.0) (ap (λ (n : ℕ). take n (take (m + length hole + 2) ring)) k ∙ take-take m (m + length hole + 2) ring (omega arith)) in
          let a : bridge fs (take m ring) hole ≡ Some to = sym e ∙ given in
          let size : m + length hole + 2 ≡ length (splice (take m ring) hole to.place.0 to.from.0) = sym long ∙ sym same ∙ ap length is in
          let front : take (m + length hole + 2) (x ++ drop (m + length hole + 2) ring) ≡ splice (take m ring) hole to.place.0 to.from.0 = take_at x (drop (m + length hole + 2) ring) _ (same ∙ long) ∙ is in
          record {
            joined = rw a (over_is (m + length hole + 2) _ ring _ size front (drop_at x (drop (m + length hole + 2) ring) _ (same ∙ long)));
            places = rw a size;
            written = rw a wrote;
          }

    pub join_none : b ≡ None → (log log' : List ℕ) (g n : ℕ) → log' ≡ log_with log n (entry 5 g 0 0 ∷ []) → Joins fs (take m ring) hole g ring ring log log' n m
    unfolding spliced bridge_entry
    join_none given log log' g n wrote =
        let a : bridge fs (take m ring) hole ≡ None = sym e ∙ given in
        let size : m ≡ length (take m ring) = sym (length-take-le m ring front_fits) in
        record { joined = rw a (over_is m ring ring (take m ring) size refl refl); places = rw a size; written = rw a wrote }

spliced_size : (fs : List Flat) (ring hole : List ℕ) → 0 < length hole → length (spliced ring hole (bridge fs ring hole)) ≤ length ring + length hole + 2
unfolding spliced
spliced_size fs ring hole h = go (bridge fs ring hole) (bridge_in fs ring hole h)
  where
    go : (b : Option Bridge) → BridgeIn fs ring hole b → length (spliced ring hole b) ≤ length ring + length hole + 2
    go None q = omega arith
    go (Some b) q = omega (arith, splice_size ring hole b.place.0 b.from.0 q.0 q.1)

spliced_grows : (fs : List Flat) (ring hole : List ℕ) → 0 < length hole → length ring ≤ length (spliced ring hole (bridge fs ring hole))
unfolding spliced
spliced_grows fs ring hole h = go (bridge fs ring hole) (bridge_in fs ring hole h)
  where
    go : (b : Option Bridge) → BridgeIn fs ring hole b → length ring ≤ length (spliced ring hole b)
    go None q = omega arith
    go (Some b) q = omega (arith, splice_size ring hole b.place.0 b.from.0 q.0 q.1)

-- ---- the loop of `join_holes`

abbrev pub adds : List ℕ → ℕ → ℕ
adds counts g = get_or counts g 0 + 2

module _ (fs : List Flat) (outer : ℕ) (counts order : List ℕ) where
  -- what is left to join
  abbrev rest : ℕ → List ℕ → Logged
  rest p ring = join_all fs (map (hole_at fs outer counts) (drop p order)) ring

  pub record Joining (ring₀ hole₀ log₀ : List ℕ) (m₀ n : ℕ) (ring hole log : List ℕ) (m entries p : ℕ) : Type 0 where
    pub ring_long : length ring ≡ length ring₀
    pub hole_long : length hole ≡ length hole₀
    pub log_long : length log ≡ length log₀
    pub turns : p ≤ length order
    pub so_far : entries ≡ n + p
    pub room : m + sum_of (adds counts) (drop p order) ≤ length ring
    pub fit : Each (Joinable counts (length hole)) (drop p order)
    pub same : (rest p (take m ring)).ring ≡ (rest 0 (take m₀ ring₀)).ring
    pub writing : log_with log entries (rest p (take m ring)).log ≡ log_with log₀ n (rest 0 (take m₀ ring₀)).log
    pub behind : drop m ring ≡ drop m ring₀
    pub holes : holes_over fs outer counts (drop p order) hole ≡ holes_over fs outer counts order hole₀

  pub join_start : (ring hole log : List ℕ) (m n : ℕ) → m + sum_of (adds counts) order ≤ length ring → Each (Joinable counts (length hole)) order
      → Joining ring hole log m n ring hole log m n 0
  join_start ring hole log m n room fit =
      record { ring_long = refl; hole_long = refl; log_long = refl; turns = omega arith; so_far = omega arith; room = room; fit = fit; same = refl; writing = refl; behind = refl; holes = refl }

  module _ (ring₀ hole₀ log₀ : List ℕ) (m₀ n : ℕ) (ring hole log : List ℕ) (m entries p : ℕ) (inv : Joining ring₀ hole₀ log₀ m₀ n ring hole log m entries p) where
    module _ (more : p < length order) where
      pub next_fit : Joinable counts (length hole) (get_or order p 0) × Each (Joinable counts (length hole)) (drop (p + 1) order)
      next_fit = rw (add-one p) (rw (drop-cons order p 0 more) at inv.fit)

      pub next_room : m + (get_or counts (get_or order p 0) 0 + 2 + sum_of (adds counts) (drop (p + 1) order)) ≤ length ring
      unfolding sum_of
      next_room = rw (add-one p) (rw (drop-cons order p 0 more) at inv.room)

      pub join_again : (ring' hole' log' : List ℕ) (r : ℕ) → length ring' ≡ length ring → length hole' ≡ length hole → length log' ≡ length log
          → Joins fs (take m ring) (turn_hole fs (hole_corners outer counts (get_or order p 0))) (get_or order p 0) ring ring' log log' entries r
          → hole' ≡ over (turn_hole fs (hole_corners outer counts (get_or order p 0))) hole → Joining ring₀ hole₀ log₀ m₀ n ring' hole' log' r (entries + 1) (p + 1)
      unfolding join_all logged fold
      join_again ring' hole' log' r kept held logs did wrote =
          let h = turn_hole fs (hole_corners outer counts (get_or order p 0)) in
          let size : length h ≡ get_or counts (get_or order p 0) 0 = hole_size fs outer counts (get_or order p 0) in
          let some : 0 < length h = omega (arith, next_fit.0.1) in
          let many : length (take m ring) ≡ m = length-take-le m ring (omega (arith, next_room)) in
          let front = over_front r ring' ring (spliced (take m ring) h (bridge fs (take m ring) h)) did.places did.joined in
          record {
            ring_long = kept ∙ inv.ring_long;
            hole_long = held ∙ inv.hole_long;
            log_long = logs ∙ inv.log_long;
            turns = omega arith;
            so_far = omega (arith, inv.so_far);
            room = omega (arith, next_room, did.places, spliced_size fs (take m ring) h some, many, kept);
            fit = rw held next_fit.1;
            same = rw front (step (λ (l : Logged). l.ring ≡ (rest 0 (take m₀ ring₀)).ring) inv.same);
            writing =
                rw front
                (log_next log log' _ entries _ _ did.written (step (λ (l : Logged). log_with log entries l.log ≡ log_with log₀ n (rest 0 (take m₀ ring₀)).log) inv.writing));
            behind =
                over_behind r ring' ring (spliced (take m ring) h (bridge fs (take m ring) h)) did.places did.joined
                ∙ behind_later m r ring ring₀ (omega (arith, did.places, spliced_grows fs (take m ring) h some, many)) inv.behind;
            holes = rw (add-one p, wrote) (rw (drop-cons order p 0 more) at inv.holes);
          }
        where
          step : (P : Logged → Type 0) → P (rest p (take m ring))
              → P (logged (bridge_entry (get_or order p 0) (bridge fs (take m ring) (turn_hole fs (hole_corners outer counts (get_or order p 0)))))
              (rest (p + 1) (spliced (take m ring) (turn_hole fs (hole_corners outer counts (get_or order p 0))) (bridge fs (take m ring) (turn_hole fs (hole_corners outer counts (get_or order p 0)))))))
          step P q = rw (add-one p) (rw (drop-cons order p 0 more) at q)

    pub join_end : length order ≤ p → JoinsAll (rest 0 (take m₀ ring₀)) ring₀ ring log₀ log n m
    join_end over =
        let done : rest p (take m ring) ≡ record { ring = take m ring; log = [] } = unfold join_all in rw (drop_of_length-le order over) in
        let r : take m ring ≡ (rest 0 (take m₀ ring₀)).ring = rw done at inv.same in
        let size = sym (length-take-le m ring (omega (arith, inv.room))) ∙ ap length r in
        record {
          joined = over_is m ring ring₀ (rest 0 (take m₀ ring₀)).ring size r inv.behind;
          places = size;
          written = log_end log _ entries (rw done at inv.writing);
        }

    pub join_room : length order ≤ p → hole ≡ holes_over fs outer counts order hole₀
    unfolding fold
    join_room over = rw (drop_of_length-le order over) at inv.holes
