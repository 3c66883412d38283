-- The loop of `clip_held`: a ring clipped step by step in its buffer, with what is held beside it. Assumes nothing.
use mathlib.Core.Path.{◌≡◌, refl, sym, ap, ◌∙◌}
use mathlib.Core.List.{List}
use Prim.Native.Nat.{ℕ, ◌+◌, ◌-◌, ◌<◌, ◌≤◌}
use native.Mathlib.Omega.{arith}
use lib.ListN.{length, drop, length-drop}
use lib.Ieee.{Float}
use borrow.Rule.Slice.PartMut.{mid_of, put_mid, put_same}
use Rattle.lid.specs.declared.Flat.{Flat}
use Rattle.std.specs.Prelude.{Option, None, Some}
use Rattle.lid.specs.declared.Cut.{Cut}
use Rattle.lid.specs.Marks.{mark_number}
use Rattle.lid.specs.Clipping.{clip_step, clip}
use Rattle.lid.specs.Contract.Steps.{Cuts, Clips}
use Rattle.lid_clip_ear.proofs.TestLaws.{order_long}
use Rattle.lid_clip.specs.declared.Stepped.{Stepped}
use Rattle.lid_clip.specs.Contract.Held.{Held, Takes}
use Rattle.lid_clip.proofs.ClipRun.{tail_is, put_long, put_behind, Clipping, clip_start, clip_again, clip_end, step_over}

pub record Running (fs : List Flat) (ring₀ log₀ : List ℕ) (n : ℕ) (triangles₀ ring : List ℕ) (rxs rys : List Float) (why log triangles : List ℕ) (from known entries count : ℕ) : Type 0 where
  pub clipping : Clipping fs ring₀ log₀ n triangles₀ ring log triangles from entries count
  pub held : Held fs (drop from ring) (drop from rxs) (drop from rys) (drop from why) known
  pub rxs_long : length rxs ≡ length ring₀
  pub rys_long : length rys ≡ length ring₀
  pub why_long : length why ≡ length ring₀

pub run_start : (fs : List Flat) (ring : List ℕ) (rxs rys : List Float) (why log : List ℕ) (n : ℕ) (triangles : List ℕ) → Held fs ring rxs rys why 0
    → Running fs ring log n triangles ring rxs rys why log triangles 0 0 n 0
run_start fs ring rxs rys why log n triangles held =
    let long = order_long fs ring rxs rys held.in_order in
    record { clipping = clip_start fs ring log n triangles; held = held; rxs_long = long.0; rys_long = long.1; why_long = held.long }

module _ (fs : List Flat) (ring₀ log₀ : List ℕ) (n : ℕ) (triangles₀ ring : List ℕ) (rxs rys : List Float) (why log triangles : List ℕ) (from known entries count : ℕ)
    (run : Running fs ring₀ log₀ n triangles₀ ring rxs rys why log triangles from known entries count) where
  pub run_room : (from ≤ length ring) × (from ≤ length rxs) × (from ≤ length rys) × (from ≤ length why)
  run_room =
      let near = run.clipping.fewer in
      (omega (arith, near, run.clipping.long), omega (arith, near, run.rxs_long), omega (arith, near, run.rys_long), omega (arith, near, run.why_long))

  pub run_few : count + length (mid_of from (length ring - from) ring) ≤ length ring₀
  run_few = omega (arith, ap length (tail_is from ring), length-drop from ring, run.clipping.few, run.clipping.fewer, run.clipping.long)

  pub run_held : Held fs (mid_of from (length ring - from) ring) (mid_of from (length rxs - from) rxs) (mid_of from (length rys - from) rys) (mid_of from (length why - from) why) known
  run_held = rw (tail_is from ring, tail_is from rxs, tail_is from rys, tail_is from why) run.held

  module _ (x : List ℕ) (x-kept : length x ≡ length (mid_of from (length ring - from) ring)) (u v : List Float) (w log' triangles' : List ℕ) where
    pub run_long : length (put_mid from (length ring - from) ring x) ≡ length ring₀
    run_long = put_long from ring x x-kept ∙ run.clipping.long

    pub run_end : Takes fs (clip_step fs (mid_of from (length ring - from) ring)) (mid_of from (length ring - from) ring) x u v w log log' entries triangles triangles' count None
        → Clips (clip fs (length ring₀) ring₀) (put_mid from (length ring - from) ring x) log₀ log' n triangles₀ triangles' (record { left = length (put_mid from (length ring - from) ring x) - from; entries = entries; triangles = count })
    run_end took = go (clip_step fs (drop from ring)) refl (rw (tail_is from ring) at took)
      where
        go : (s : Option Cut) → clip_step fs (drop from ring) ≡ s → Takes fs s (drop from ring) x u v w log log' entries triangles triangles' count None
            → Clips (clip fs (length ring₀) ring₀) (put_mid from (length ring - from) ring x) log₀ log' n triangles₀ triangles' (record { left = length (put_mid from (length ring - from) ring x) - from; entries = entries; triangles = count })
        go (Some cut) e t = absurd t
        go None e t =
            let same : put_mid from (length ring - from) ring x ≡ ring = ap (put_mid from (length ring - from) ring) (t.0 ∙ sym (tail_is from ring)) ∙ put_same from (length ring - from) ring in
            rw (same, t.1, t.2) (clip_end fs ring₀ log₀ n triangles₀ ring log triangles from entries count run.clipping e)

    module _ (r : Stepped) (took : Takes fs (clip_step fs (mid_of from (length ring - from) ring)) (mid_of from (length ring - from) ring) x u v w log log' entries triangles triangles' count (Some r)) where
      -- what the step says of the part behind place `from`, where it was a cut
      abbrev Cutting : Type 0
      Cutting =
          (cut : Cut) × (clip_step fs (drop from ring) ≡ Some cut)
          × Cuts (mark_number cut.mark) (drop from ring) cut.place.0 x log log' entries triangles triangles' count r.triangles × Held fs (drop 1 x) (drop 1 u) (drop 1 v) (drop 1 w) r.known

      cutting : Cutting
      cutting = go (clip_step fs (drop from ring)) refl (rw (tail_is from ring) at took)
        where
          go : (s : Option Cut) → clip_step fs (drop from ring) ≡ s → Takes fs s (drop from ring) x u v w log log' entries triangles triangles' count (Some r) → Cutting
          go None e t = absurd t
          go (Some cut) e t = (cut, e, t.0, t.1)

      pub run_left : from < length ring₀
      run_left = omega (arith, step_over fs (drop from ring) cutting.0 cutting.1, length-drop from ring, run.clipping.long)

      module _ (u-kept : length u ≡ length (mid_of from (length rxs - from) rxs)) (v-kept : length v ≡ length (mid_of from (length rys - from) rys))
          (w_kept : length w ≡ length (mid_of from (length why - from) why)) (log-kept : length log' ≡ length log) (triangles-kept : length triangles' ≡ length triangles) where
        pub run_more : Running fs ring₀ log₀ n triangles₀ (put_mid from (length ring - from) ring x) (put_mid from (length rxs - from) rxs u) (put_mid from (length rys - from) rys v) (put_mid from (length why - from) why w) log' triangles' (from + 1) r.known (entries + 1) r.triangles
        run_more =
            let ring_on : drop (from + 1) (put_mid from (length ring - from) ring x) ≡ drop 1 x = put_behind from ring x x-kept run_room.0 in
            record {
              clipping = clip_again fs ring₀ log₀ n triangles₀ ring log triangles (put_mid from (length ring - from) ring x) log' triangles' from entries count r.triangles cutting.0 x run.clipping cutting.1 (put_long from ring x x-kept) ring_on log-kept triangles-kept cutting.2;
              held = rw (ring_on, put_behind from rxs u u-kept run_room.1, put_behind from rys v v-kept run_room.2, put_behind from why w w_kept run_room.3) cutting.3;
              rxs_long = put_long from rxs u u-kept ∙ run.rxs_long;
              rys_long = put_long from rys v v-kept ∙ run.rys_long;
              why_long = put_long from why w w_kept ∙ run.why_long;
            }
