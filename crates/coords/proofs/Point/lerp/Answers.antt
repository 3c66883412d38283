use Rattle.std.proofs.Common.{ap, ◌∙◌}
use Rattle.coords_vector.specs.declared.Vector.{Vector}
use Rattle.coords_vector.specs.Vectors.{scale}
use Rattle.coords.specs.Coords.{moved, lerp}
use Rattle.coords.proofs.Point.lerp.Goals as goal

pub returns : goal.returns
unfolding lerp
returns c = let a = c.args in
    c.add.ensures ∙ ap (moved a.self) (c.mul.ensures ∙ ap (λ (v : Vector). scale v a.t) c.sub.ensures)
