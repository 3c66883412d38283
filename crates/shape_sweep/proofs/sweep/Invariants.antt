use Rattle.std.proofs.Common.{◌*◌, ◌+◌, ◌-◌, ◌≡◌}
use Rattle.face.specs.Contract.Drawing.{Draws, CountableOn}
use Rattle.scene_field.specs.Fields.{section_at, sections_at}
use Rattle.shape.specs.Shapes.{pair_faces, pairs}
use Rattle.shape_sweep.proofs.sweep.Given as goal

abbrev pub invariant-loop-k : goal.invariant-loop-k
invariant-loop-k l =
    (l.a ≡ section_at l.s (l.at + 48 * (l.k - 1))) × Draws (pairs pair_faces (sections_at l.s l.k l.at)) l.initial.canvas l.canvas
    × CountableOn l.canvas (16 * (l.n + 1 - l.k)) (8 * (l.n + 1 - l.k))
