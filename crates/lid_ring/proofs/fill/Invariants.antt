use Rattle.std.proofs.Common.{take, ◌≡◌}
use Rattle.lists.specs.Loops.{list}
use Rattle.lid_ring.proofs.fill.Given as goal

abbrev pub invariant-loop-k : goal.invariant-loop-k
invariant-loop-k l = take l.k l.ring ≡ list (λ i. i) l.k l.from
