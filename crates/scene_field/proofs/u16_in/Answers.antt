use Rattle.std.proofs.Common.{arith}
use Rattle.scene_field.specs.Fields.{u16_at}
use Rattle.scene_field.proofs.u16_in.Goals as goal

pub returns : goal.returns
unfolding u16_at
returns c = omega arith
