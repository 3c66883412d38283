use Rattle.shape_box.proofs.BoxLaws.{Drawn}
use Rattle.shape_box.proofs.cuboid.Given as goal

abbrev pub invariant-loop-k : goal.invariant-loop-k
invariant-loop-k l = Drawn l.b l.initial.canvas l.canvas l.initial.after l.after l.k
