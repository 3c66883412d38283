-- An edge that passes the line changes no hit.
use Rattle.std.proofs.Common.{Bool, List, Option, arith, false, not, refl, ℕ, ◌≡◌}
use borrow.Author.Tests.{not-false}
use Rattle.lid.specs.declared.Flat.{Flat}
use Rattle.lid.specs.declared.Hit.{Hit}
use Rattle.lid.specs.Bridges.{hit_edge, hit_at}
use Rattle.lid_flat.specs.Flats.{flats_in}
use Rattle.lists.proofs.Loops.{loop_next}
use Rattle.lid_bridge.specs.Contract.Hits.{passes_at}
use Rattle.lid_bridge.proofs.ray.next_met.Goals as goal

passed : (fs : List Flat) (ring : List ℕ) (m : Flat) (k : ℕ) (h : Option Hit) (b : Bool) → b ≡ passes_at fs ring m k → not b ≡ false → h ≡ hit_at fs ring m k h
unfolding hit_at hit_edge
passed fs ring m k h b e n = rw (← e, not-false b n) refl

pub loop-k-init : goal.loop-k-init
loop-k-init c = (omega arith, λ h. refl)

pub returns-then-not-passes_at : goal.returns-then-not-passes_at
returns-then-not-passes_at c = c.loop-k.invariant

pub loop-k-preserved : goal.loop-k-preserved
loop-k-preserved c = let a = c.args in
    (omega arith, λ h. loop_next _ _ _ _ _ _ c.loop-k-test.true (passed (flats_in a.polygon) a.ring.now a.m c.loop-k.k h _ c.passes_at.ensures (rw c.if-not-passes_at.false)) (c.loop-k.invariant.1 h))

pub returns : goal.returns
returns c = c.loop-k.invariant

pub passes_at-requires : goal.passes_at-requires
passes_at-requires c = c.loop-k-test.true
