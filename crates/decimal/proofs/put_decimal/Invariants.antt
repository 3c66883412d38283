use Rattle.decimal.proofs.Stores.{Ending}
use Rattle.decimal.proofs.put_decimal.Given as goal

abbrev pub invariant-loop-rest : goal.invariant-loop-rest
invariant-loop-rest l = Ending l.initial.text l.at l.n l.text l.i l.rest

abbrev pub decreases-loop-rest : goal.decreases-loop-rest
decreases-loop-rest l = l.rest
