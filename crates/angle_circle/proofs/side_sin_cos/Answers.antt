-- `angle_circle::side_sin_cos` meets its contract: antt computes the values of both tables. Assumes nothing.
use Rattle.std.proofs.Common.{refl}
use Rattle.lists.proofs.Computes.{computes as lists-computes}
use Rattle.float.proofs.Computes.{computes as float-computes}
use Rattle.angle_circle.proofs.Computes.{computes}
use Rattle.angle_circle.proofs.side_sin_cos.Goals as goal

pub returns : goal.returns
unfolding lists-computes float-computes computes
returns c = refl
