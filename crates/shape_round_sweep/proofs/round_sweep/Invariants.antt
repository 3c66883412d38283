use Rattle.std.proofs.Common.{map, ◌*◌, ◌+◌, ◌-◌, ◌≡◌}
use Rattle.face.specs.Contract.Drawing.{Draws, CountableOn}
use Rattle.scene_field.specs.Fields.{section_at, sections_at}
use Rattle.shape.specs.Shapes.{pairs, ellipse, tube_faces}
use Rattle.shape_round_sweep.specs.Contract.Rings.{ellipse_of}
use Rattle.shape_round_sweep.proofs.round_sweep.Given as goal

abbrev pub invariant-loop-k : goal.invariant-loop-k
invariant-loop-k l =
    (ellipse_of l.a ≡ ellipse (section_at l.s (l.at + 48 * (l.k - 1)))) × Draws (pairs tube_faces (map ellipse (sections_at l.s l.k l.at))) l.initial.canvas l.canvas
    × CountableOn l.canvas (64 * (l.n + 1 - l.k)) (32 * (l.n + 1 - l.k))
