-- The operation is the definition. Assumes nothing.
use Rattle.std.proofs.Common.{refl}
use Rattle.coords_vector.specs.Vectors.{plus}
use Rattle.coords_vector.proofs.VectorAdd.add.Goals as goal

pub returns : goal.returns
unfolding plus
returns c = refl
