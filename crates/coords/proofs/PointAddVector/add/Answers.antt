-- The operation is the definition. Assumes nothing.
use Rattle.std.proofs.Common.{refl}
use Rattle.coords.specs.Coords.{moved}
use Rattle.coords.proofs.PointAddVector.add.Goals as goal

pub returns : goal.returns
unfolding moved
returns c = refl
