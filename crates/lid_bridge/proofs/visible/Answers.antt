use Rattle.std.proofs.Common.{ap, ◌∙◌}
use lib.Ieee.{of_bits}
use Rattle.lid.specs.Bridges.{visible}
use Rattle.lid.specs.declared.Seen.{Seen}
use Rattle.lists.proofs.Loops.{loop_start, loop_next, loop_end}
use Rattle.lid_bridge.proofs.visible.Goals as goal

pub loop-k-init : goal.loop-k-init
loop-k-init c = loop_start _ _ _

pub loop-k-preserved : goal.loop-k-preserved
loop-k-preserved c = loop_next _ _ _ _ _ _ c.loop-k-test.true c.seen_at-best.ensures c.loop-k.invariant

pub returns : goal.returns
unfolding visible of_bits
returns c = ap (λ (s : Seen). s.place.0) (loop_end _ _ _ _ _ c.loop-k-test.false c.loop-k.invariant) ∙ rw c.ray_to-ray.ensures

pub seen_at-best-requires : goal.seen_at-best-requires
seen_at-best-requires c = record { at_in_bounds = c.loop-k-test.true; p_value = c.at-p.ensures }
