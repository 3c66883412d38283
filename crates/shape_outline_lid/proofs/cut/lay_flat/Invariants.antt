use Rattle.std.proofs.Common.{drop, length, take, ◌*◌, ◌+◌, ◌≡◌, ◌≤◌}
use Rattle.lid_plane.specs.Contract.Steps.{flat_on}
use Rattle.lists.specs.Loops.{list}
use Rattle.scene_field.specs.Fields.{point_at}
use Rattle.shape_outline_lid.proofs.cut.lay_flat.Given as goal

abbrev pub invariant-loop-k : goal.invariant-loop-k
invariant-loop-k l =
    (l.k ≤ l.n) × (length l.work ≡ length l.initial.work) × (take l.k l.work ≡ list (λ j. (flat_on (point_at l.row.s.now l.row.at) l.e1 l.e2 (point_at l.row.s.now (l.row.at + 24 * j))).x) l.k 0)
    × (take l.k (drop l.n l.work) ≡ list (λ j. (flat_on (point_at l.row.s.now l.row.at) l.e1 l.e2 (point_at l.row.s.now (l.row.at + 24 * j))).y) l.k 0)
    × (drop (2 * l.n) l.work ≡ drop (2 * l.n) l.initial.work)
