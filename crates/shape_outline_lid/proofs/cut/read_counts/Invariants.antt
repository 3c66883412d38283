use Rattle.std.proofs.Common.{take, ◌*◌, ◌+◌, ◌≡◌}
use Rattle.lists.specs.Loops.{list}
use Rattle.scene_field.specs.Fields.{u16_at}
use Rattle.shape_outline_lid.proofs.cut.read_counts.Given as goal

abbrev pub invariant-loop-k : goal.invariant-loop-k
invariant-loop-k l = take l.k l.counts ≡ list (λ j. u16_at l.s (l.at + 2 * j)) l.k 0
