use Rattle.quote_objects.proofs.Lines.{Lines}
use Rattle.quote_objects.proofs.put_objects.Given as goal

abbrev pub invariant-loop-k : goal.invariant-loop-k
invariant-loop-k l = Lines l.s l.account l.n l.initial.to l.to l.at l.k
