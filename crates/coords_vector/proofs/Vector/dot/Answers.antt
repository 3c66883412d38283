-- The operation is the definition. Assumes nothing.
use Rattle.std.proofs.Common.{refl}
use Rattle.coords_vector.specs.Vectors.{dot}
use Rattle.coords_vector.proofs.Vector.dot.Goals as goal

pub returns : goal.returns
unfolding dot
returns c = refl
