use Rattle.std.proofs.Common.{length, ◌-◌}
use Rattle.lid_join.proofs.JoinLaws.{Joining}
use Rattle.lid_flat.specs.Flats.{flats_in}
use Rattle.lid_join.proofs.join_holes.Given as goal

abbrev pub invariant-loop-g : goal.invariant-loop-g
invariant-loop-g l = Joining (flats_in l.polygon) l.counts.outer l.counts.holes.now l.order l.initial.ring l.initial.hole l.initial.log l.m l.n l.ring l.hole l.log l.places l.entries l.g-index
