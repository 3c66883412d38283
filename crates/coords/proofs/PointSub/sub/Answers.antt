-- The operation is the definition. Assumes nothing.
use Rattle.std.proofs.Common.{refl}
use Rattle.coords.specs.Coords.{diff}
use Rattle.coords.proofs.PointSub.sub.Goals as goal

pub returns : goal.returns
unfolding diff
returns c = refl
