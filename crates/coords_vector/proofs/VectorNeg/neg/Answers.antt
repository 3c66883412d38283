-- The operation is the definition. Assumes nothing.
use Rattle.std.proofs.Common.{refl}
use Rattle.coords_vector.specs.Vectors.{negate}
use Rattle.coords_vector.proofs.VectorNeg.neg.Goals as goal

pub returns : goal.returns
unfolding negate
returns c = refl
