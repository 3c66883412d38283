-- The operation is the definition. Assumes nothing.
use Rattle.std.proofs.Common.{refl}
use Rattle.coords_vector.specs.Vectors.{cross}
use Rattle.coords_vector.proofs.Vector.cross.Goals as goal

pub returns : goal.returns
unfolding cross
returns c = refl
