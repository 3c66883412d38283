use Rattle.std.proofs.Common.{lit<}
use lib.Ieee.{binary64}
use Rattle.float.proofs.Patterns.{limited}
use Rattle.float.specs.Number.{allowed64}
use Rattle.scene_field.proofs.allowed.is_allowed64.Goals as goal

pub returns : goal.returns
unfolding allowed64
returns c = limited binary64 c.args.b 0x3ff0_0000_0000_0000 (lit< tt) (lit< tt)
