use Rattle.std.proofs.Common.{◌*◌, ◌-◌, ◌<◌, ◌^◌, ◌≤◌}
use Rattle.float_sqrt.proofs.whole_root.Given as goal

abbrev pub invariant-loop-r : goal.invariant-loop-r
invariant-loop-r l = l.r < 2 ^ 26

abbrev pub decreases-loop-r : goal.decreases-loop-r
decreases-loop-r l = l.r

abbrev pub invariant-loop-r-2 : goal.invariant-loop-r-2
invariant-loop-r-2 l = (l.r < 2 ^ 26) × (l.r * l.r ≤ l.n)

abbrev pub decreases-loop-r-2 : goal.decreases-loop-r-2
decreases-loop-r-2 l = l.n - l.r
