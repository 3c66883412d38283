use Rattle.lid_place.proofs.RemoveLaws.{Removing}
use Rattle.lid_place.proofs.remove.Given as goal

abbrev pub invariant-loop-j : goal.invariant-loop-j
invariant-loop-j g l = Removing l.initial.ring l.initial.j l.ring l.j
