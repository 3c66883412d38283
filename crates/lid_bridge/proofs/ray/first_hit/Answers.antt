use Rattle.std.proofs.Common.{◌∙◌}
use Rattle.lid.specs.Bridges.{first_hit}
use Rattle.lists.proofs.Loops.{loop_start, loop_next, loop_end}
use Rattle.lid_bridge.proofs.ray.first_hit.Goals as goal

pub loop-k-init : goal.loop-k-init
unfolding first_hit
loop-k-init c = c.next_met-k.ensures.1 _ ∙ loop_start _ _ _

pub loop-k-preserved : goal.loop-k-preserved
loop-k-preserved c = c.next_met-k-in-loop-k.ensures.1 _ ∙ loop_next _ _ _ _ _ _ c.loop-k-test.true c.hit_at-h.ensures c.loop-k.invariant

pub returns : goal.returns
returns c = loop_end _ _ _ _ _ c.loop-k-test.false c.loop-k.invariant

pub hit_at-h-requires : goal.hit_at-h-requires
hit_at-h-requires c = c.loop-k-test.true
