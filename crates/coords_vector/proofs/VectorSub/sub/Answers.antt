-- The operation is the definition. Assumes nothing.
use Rattle.std.proofs.Common.{refl}
use Rattle.coords_vector.specs.Vectors.{less}
use Rattle.coords_vector.proofs.VectorSub.sub.Goals as goal

pub returns : goal.returns
unfolding less
returns c = refl
