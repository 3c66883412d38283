use Rattle.std.proofs.Common.{◌*◌, ◌+◌, ◌-◌, ◌≡◌, ◌≤◌}
use Rattle.lists.specs.Loops.{list, sum_of}
use Rattle.scene_field.specs.Fields.{u16_at, counts_at}
use Rattle.scene_header.proofs.hole_counts.sum_counts.Given as goal

abbrev pub invariant-loop-k : goal.invariant-loop-k
invariant-loop-k l = (l.sum ≤ 65535 * l.k) × (l.sum + sum_of (λ j. j) (list (λ j. u16_at l.s (l.i + 2 * j)) (l.n - l.k) l.k) ≡ sum_of (λ j. j) (counts_at l.s l.n l.i))
