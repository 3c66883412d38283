use Rattle.std.proofs.Common.{◌≡◌}
use Rattle.lid_hole.specs.Contract.Holes.{hole_start}
use Rattle.lid_hole.proofs.hole_start.Given as goal

abbrev pub invariant-loop-k : goal.invariant-loop-k
invariant-loop-k l = l.start ≡ hole_start l.counts.outer l.counts.holes.now l.k
