-- The holes of a lid joined to its outer ring, which is then cut, and the whole lid. Assumes nothing.
use mathlib.Core.Path.{◌≡◌, refl, sym, ap, subst, ◌∙◌}
use mathlib.Core.Bool.{Bool, true, false}
use mathlib.Core.List.{List, [], ◌∷◌, ◌++◌, append_assoc, map}
use Prim.Native.Nat.{ℕ, ◌+◌, ◌*◌, ◌<◌, ◌≤◌, ◌^◌}
use native.Mathlib.Nat.{zero-add}
use native.Mathlib.Omega.{arith}
use lib.ListN.{length, get_or, take, drop, length-append, length-take, length-map}
use lib.Seq.{length-take-le, length_front}
use lib.Ieee.{Float}
use Rattle.lists.specs.Each.{Each}
use Rattle.lists.specs.Loops.{list, join, sum_of}
use Rattle.object.specs.Limits.{most_holes, most_corners}
use Rattle.lid.specs.declared.Flat.{Flat}
use Rattle.lid.specs.declared.LidCounts.{LidCounts}
use Rattle.lid.specs.declared.Prepared.{Prepared}
use Rattle.lid.specs.Log.{Entry, entry}
use Rattle.lid.specs.Rings.{Hole, too_small, turn_outer, rings_from, holes_from, skipped_from, in_order}
use Rattle.lid.specs.Bridges.{join_all}
use Rattle.lid.specs.Clipping.{clip}
use Rattle.lid.specs.Lid.{lid_from, lid_rings, lid_of}
use Rattle.lid.specs.Contract.Written.{log_with, triangle_numbers, corner_total, WritesLid}
use Rattle.lid.specs.Contract.Steps.{turned}
use Rattle.lid_hole.specs.Contract.Holes.{hole_start, hole_at, rights_of, small_of, skips, Joinable}
use Rattle.lid_hole.specs.Contract.Order.{order_of, Ordered}
use Rattle.lid_cut.specs.Contract.CutRing.{ring_entries, ring_triangles}
use Rattle.lid_triangulate.specs.Contract.Opened.{open_entries, open_triangles, lid_open, BuffersFit, Prepares}
use Rattle.lid_join.specs.Contract.Joined.{JoinsAll}
use Rattle.lid.proofs.Facts.{join_all_log, holes_each, rings_count}
use Rattle.lid_hole.proofs.HoleLaws.{start_last}
use Rattle.lid_triangulate.proofs.OrderLaws.{order_is, skips_are, order_joinable, order_adds, sum_two}
use Rattle.lid_log.proofs.RecordLaws.{log_some}
use Rattle.lists.proofs.Buffers.{over_front}
use Rattle.lid_splice.proofs.SpliceLaws.{front_back}

-- a ring whose holes are joined, and then cut
module _ (fs : List Flat) (hs : List Hole) (ring buffer ring' log log₁ : List ℕ) (n m : ℕ) (joined : JoinsAll (join_all fs hs ring) buffer ring' log log₁ n m) where
  joined_front : take m ring' ≡ (join_all fs hs ring).ring
  joined_front = over_front m ring' buffer (join_all fs hs ring).ring joined.places joined.joined

  pub joined_fits : m ≤ length ring'
  joined_fits = omega (arith, ap length joined_front, joined.places, length-take m ring')

  pub joined_in : (long room : ℕ) → length ring' ≡ long → room ≡ long → m ≤ room
  joined_in long room kept same = omega (arith, joined_fits, kept, same)

  pub joined_room : (k long : ℕ) (rxs rys : List Float) (hole : List ℕ) → length ring' ≡ long → length rxs ≡ long → length rys ≡ long → length hole ≡ long → n + k + long + 1 < 2 ^ 32
      → (n + k + length (take m ring') + 1 < 2 ^ 32) × ((length (take m rxs) ≡ length (take m ring')) × (length (take m rys) ≡ length (take m ring')) × (length (take m hole) ≡ length (take m ring')))
  joined_room k long rxs rys hole kept rxs_long rys_long hole_long room =
      let size : length (take m ring') ≡ m = length-take-le m ring' joined_fits in (
        omega (arith, size, joined_fits, kept, room),
        (
          length-take-le m rxs (joined_in long (length rxs) kept rxs_long) ∙ sym size,
          length-take-le m rys (joined_in long (length rys) kept rys_long) ∙ sym size,
          length-take-le m hole (joined_in long (length hole) kept hole_long) ∙ sym size,
        ),
      )

  pub joined_draws : (log₂ triangles triangles₂ : List ℕ) (k : ℕ) (r : LidCounts) → k ≡ length hs
      → WritesLid (ring_entries (clip fs (length (take m ring')) (take m ring'))) (ring_triangles fs (clip fs (length (take m ring')) (take m ring'))) log₁ log₂ (n + k) triangles triangles₂ r
      → WritesLid (open_entries fs (join_all fs hs ring)) (open_triangles fs (join_all fs hs ring)) log log₂ n triangles triangles₂ r
  joined_draws log₂ triangles triangles₂ k r count drew =
      let j = join_all fs hs ring in
      let es : List Entry = ring_entries (clip fs (length j.ring) j.ring) in
      let d : WritesLid es (open_triangles fs j) log₁ log₂ (n + k) triangles triangles₂ r = rw joined_front at drew in
      let many : k ≡ length j.log = count ∙ sym (join_all_log fs (λ i. []) hs ring) in
      record {
        written = d.written ∙ log_some log log₁ _ n (n + k) j.log es joined.written (ap (λ (i : ℕ). n + i) many) refl;
        entries = omega (arith, d.entries, many, length-append j.log es);
        drawn = d.drawn;
        offered = d.offered;
      }

pub still : {n k m : ℕ} → m ≡ k → n ≤ k → n ≤ m
still {n} e h = subst (λ (i : ℕ). n ≤ i) (sym e) h

pub few_low : {n : ℕ} → n ≤ most_holes → n < 2 ^ 31
few_low h = omega arith

-- the first part of a buffer is no longer than asked for
pub front_few : {A : Type 0} (n : ℕ) (l : List A) (m : ℕ) → n ≤ m → length (take n l) ≤ m
front_few n l m h = omega (arith, length-take n l, h)

pub front_low : {A : Type 0} (n : ℕ) (l : List A) → n ≤ most_holes → length (take n l) < 2 ^ 32
front_low n l h = omega (arith, length-take n l, h)

-- buffers with room
pub buffers_fit : (outer : ℕ) (counts : List ℕ) (n : ℕ) → n ≤ 576 → length counts ≤ most_holes → corner_total outer counts + (length counts + length counts) ≤ n → BuffersFit outer counts n n
buffers_fit outer counts n few holes places = record { holes = holes; places = omega (arith, places, sum_two counts); few = few; same = refl }

pub all_places : (outer : ℕ) (counts : List ℕ) → corner_total outer counts ≤ most_corners → length counts ≤ most_holes → corner_total outer counts + (length counts + length counts) ≤ 576
all_places outer counts corners holes = omega (arith, corners, holes)

pub few_places : (outer : ℕ) (counts : List ℕ) (corners : ℕ) → corners ≡ hole_start outer counts (length counts) → corners + 2 * length counts ≤ 32
    → corner_total outer counts + (length counts + length counts) ≤ 32
few_places outer counts corners e h = omega (arith, e, start_last outer counts, h)

module _ (outer : ℕ) (counts : List ℕ) (ring hole : ℕ) (fit : BuffersFit outer counts ring hole) where
  pub outer_fits : outer ≤ ring
  outer_fits = omega (arith, fit.places)

  pub corners_low : corner_total outer counts < 2 ^ 32
  corners_low = omega (arith, fit.places, fit.few, sum_two counts)

  pub counts_fit : sum_of (λ n. n) counts ≤ hole
  counts_fit = omega (arith, fit.places, fit.same, sum_two counts)

module _ (outer : ℕ) (counts ring : List ℕ) (hole : ℕ) where
  pub outer_low : BuffersFit outer counts (length ring) hole → 0 + length (take outer ring) < 2 ^ 32
  outer_low fit = omega (arith, length-take outer ring, fit.places, fit.few)

  pub outer_kept : (x : List ℕ) → length x ≡ length (take outer ring) → BuffersFit outer counts (length ring) hole → BuffersFit outer counts (length (x ++ drop outer ring)) hole
  outer_kept x same fit = subst (λ (n : ℕ). BuffersFit outer counts n hole) (sym (length_front ring x outer same)) fit

module _ (fs : List Flat) (outer : ℕ) (counts : List ℕ) where
  -- what `prepare` does
  pub prepare_done : (room : ℕ) (rights : List Float) (small : List Bool) (old order log log₁ : List ℕ) (r : Prepared) → sum_of (λ i. i) counts ≤ room
      → rights ≡ rights_of fs outer counts → small ≡ small_of fs outer counts → r.entries ≡ length (skips 0 (small_of fs outer counts))
      → log₁ ≡ log_with log 0 (skips 0 (small_of fs outer counts)) → Ordered (order_of rights small) old order r.holes → Prepares fs outer counts room order log log₁ r
  prepare_done room rights small old order log log₁ r fits er es n w o =
      let front = over_front r.holes order old (order_of rights small) o.holes o.stands in
      let stands : take r.holes order ≡ order_of (rights_of fs outer counts) (small_of fs outer counts) = rw (er, es) at front in
      let skipped = skips_are fs outer counts in
      record {
        written = rw skipped at w;
        entries = rw skipped at n;
        ordered = rw stands (order_is fs outer counts);
        fewer = omega (arith, ap length front, o.holes, length-take r.holes order);
        joinable = rw stands (order_joinable fs outer counts room fits);
      }

  -- what `cut_open` does after `prepare`, which leaves the holes in a buffer of orders
  module _ (room : ℕ) (order log log₁ : List ℕ) (p : Prepared) (done : Prepares fs outer counts room order log log₁ p) where
    pub order_joins : (hole : ℕ) → hole ≡ room → Each (Joinable counts hole) (take p.holes order)
    order_joins hole e = subst (λ (n : ℕ). Each (Joinable counts n) (take p.holes order)) (sym e) done.joinable

    order_size : length (take p.holes order) ≡ p.holes
    order_size = length-take-le p.holes order done.fewer

    pub order_count : p.holes ≡ length (map (hole_at fs outer counts) (take p.holes order))
    order_count = sym (length-map (take p.holes order) (hole_at fs outer counts) ∙ order_size)

    pub order_room : (ring : ℕ) → BuffersFit outer counts ring room → length order ≡ most_holes → p.entries + p.holes + ring + 1 < 2 ^ 32
    order_room ring fit size = omega (arith, done.entries, holes_each fs 0 (rings_from outer counts), rings_count outer counts, done.fewer, size, fit.holes, fit.few)

    pub holes_low : length order ≡ most_holes → p.holes < 2 ^ 32
    holes_low size = omega (arith, done.fewer, size)

    pub order_low : (ring : ℕ) → BuffersFit outer counts ring room → length order ≡ most_holes → p.entries + p.holes < 2 ^ 32
    order_low ring fit size = omega (arith, order_room ring fit size)

    pub order_fits : (ring : ℕ) → BuffersFit outer counts ring room → length order ≡ most_holes
        → (outer + sum_of (λ g. get_or counts g 0 + 2) (take p.holes order) ≤ ring) × (ring < 2 ^ 32) × (p.entries + length (take p.holes order) < 2 ^ 32)
    order_fits ring fit size = (
      omega (arith, order_adds fs outer counts (take p.holes order) done.ordered, fit.places),
      omega (arith, fit.few),
      omega (arith, order_low ring fit size, order_size),
    )

    pub open_draws : (ring log₂ triangles triangles₂ : List ℕ) (r : LidCounts) → take outer ring ≡ turn_outer fs (list (λ i. i) outer 0)
        → WritesLid (open_entries fs (join_all fs (map (hole_at fs outer counts) (take p.holes order)) (take outer ring))) (open_triangles fs (join_all fs (map (hole_at fs outer counts) (take p.holes order)) (take outer ring))) log₁ log₂ p.entries triangles triangles₂ r
        → WritesLid (lid_open fs outer counts).log (lid_open fs outer counts).triangles log log₂ 0 triangles triangles₂ r
    unfolding lid_from
    open_draws ring log₂ triangles triangles₂ r turned drew =
        let j = join_all fs (in_order fs (holes_from fs 0 (rings_from outer counts))) (turn_outer fs (list (λ i. i) outer 0)) in
        let skipped = skipped_from fs 0 (rings_from outer counts) in
        let d : WritesLid (open_entries fs j) (open_triangles fs j) log₁ log₂ p.entries triangles triangles₂ r = rw (done.ordered, turned) at drew in
        let whole : skipped ++ open_entries fs j ≡ (lid_open fs outer counts).log = simp append_assoc in
        record {
          written = d.written ∙ log_some log log₁ _ 0 p.entries skipped (open_entries fs j) done.written (done.entries ∙ sym (zero-add (length skipped))) refl ∙ ap (log_with log 0) whole;
          entries = omega (arith, d.entries, done.entries, ap length whole, length-append skipped (open_entries fs j));
          drawn = d.drawn;
          offered = d.offered;
        }

  -- what `cut_lid` does
  pub lid_small : (log log₁ triangles : List ℕ) → too_small fs (list (λ i. i) outer 0) ≡ true → log₁ ≡ log_with log 0 (entry 7 0 0 0 ∷ [])
      → WritesLid (lid_of fs outer counts).log (lid_of fs outer counts).triangles log log₁ 0 triangles triangles (record { entries = 1; triangles = 0 })
  unfolding lid_of lid_rings triangle_numbers join
  lid_small log log₁ triangles e w = rw e (record { written = w; entries = refl; drawn = refl; offered = refl })

  pub lid_open_lem : (log log₁ triangles triangles₁ : List ℕ) (r : LidCounts) → too_small fs (list (λ i. i) outer 0) ≡ false
      → WritesLid (lid_open fs outer counts).log (lid_open fs outer counts).triangles log log₁ 0 triangles triangles₁ r
      → WritesLid (lid_of fs outer counts).log (lid_of fs outer counts).triangles log log₁ 0 triangles triangles₁ r
  unfolding lid_of lid_rings
  lid_open_lem log log₁ triangles triangles₁ r e d = rw e d

-- the outer ring x stands in the first places of a buffer
pub outer_stands : (fs : List Flat) (outer : ℕ) (ring x : List ℕ) → outer ≤ length ring → length x ≡ length (take outer ring)
    → x ≡ turned true fs (list (λ i. i) (length (take outer ring)) 0) → take outer (x ++ drop outer ring) ≡ turn_outer fs (list (λ i. i) outer 0)
outer_stands fs outer ring x fits same e =
    front_back ring x outer outer refl fits same ∙ e ∙ ap (λ (n : ℕ). turn_outer fs (list (λ i. i) n 0)) (length-take-le outer ring fits)

pub outer_small : (fs : List Flat) (outer : ℕ) (ring : List ℕ) (b c : Bool) → outer ≤ length ring → b ≡ too_small fs (list (λ i. i) (length (take outer ring)) 0) → b ≡ c
    → too_small fs (list (λ i. i) outer 0) ≡ c
outer_small fs outer ring b c fits e h = ap (λ (n : ℕ). too_small fs (list (λ i. i) n 0)) (sym (length-take-le outer ring fits)) ∙ sym e ∙ h
