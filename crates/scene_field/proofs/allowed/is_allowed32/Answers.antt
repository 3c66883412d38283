use Rattle.std.proofs.Common.{lit<}
use lib.Ieee.{binary32}
use Rattle.float.proofs.Patterns.{limited}
use Rattle.float.specs.Number.{allowed32}
use Rattle.scene_field.proofs.allowed.is_allowed32.Goals as goal

pub returns : goal.returns
unfolding allowed32
returns c = limited binary32 c.args.b 0x4b80_0000 (lit< tt) (lit< tt)
