use Rattle.std.proofs.Common.{◌*◌, ◌+◌, ◌-◌, ◌≡◌}
use Rattle.float.specs.Number.{allowed32}
use Rattle.lists.specs.Loops.{every, list}
use Rattle.scene_field.specs.Fields.{f32_at, all32}
use Rattle.scene_field.proofs.allowed.all_allowed32.Given as goal

abbrev pub invariant-loop-k : goal.invariant-loop-k
invariant-loop-k l = every (λ x. allowed32 x) (list (λ j. f32_at l.s (l.i + 4 * j)) (l.n - l.k) l.k) ≡ all32 l.s l.n l.i
