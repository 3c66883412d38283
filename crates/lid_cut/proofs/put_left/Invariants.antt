use Rattle.std.proofs.Common.{drop, map, ◌+◌, ◌≡◌}
use Rattle.lid.specs.Log.{entry}
use Rattle.lid.specs.Contract.Written.{log_with}
use Rattle.lid_cut.proofs.put_left.Given as goal

abbrev pub invariant-loop-corner : goal.invariant-loop-corner
invariant-loop-corner l = (l.entries ≡ l.n + l.corner-index) × (log_with l.log l.entries (map (λ a. entry 3 a 0 0) (drop l.corner-index l.ring)) ≡ log_with l.initial.log l.n (map (λ a. entry 3 a 0 0) l.ring))
