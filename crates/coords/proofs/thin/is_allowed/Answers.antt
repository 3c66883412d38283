use Rattle.std.proofs.Common.{refl}
use Rattle.coords.specs.Coords.{allowed_limit}
use Rattle.coords.proofs.thin.is_allowed.Goals as goal

pub returns : goal.returns
unfolding allowed_limit
returns c = refl
