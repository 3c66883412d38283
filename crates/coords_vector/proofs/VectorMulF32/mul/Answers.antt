-- The operation is the definition. Assumes nothing.
use Rattle.std.proofs.Common.{refl}
use Rattle.coords_vector.specs.Vectors.{scale}
use Rattle.coords_vector.proofs.VectorMulF32.mul.Goals as goal

pub returns : goal.returns
unfolding scale
returns c = refl
