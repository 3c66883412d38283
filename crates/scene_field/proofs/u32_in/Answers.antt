use Rattle.std.proofs.Common.{arith}
use Rattle.scene_field.proofs.Fields.{u32_bytes}
use Rattle.scene_field.proofs.u32_in.Goals as goal

pub returns : goal.returns
returns c = let a = c.args in
    omega (arith, u32_bytes a.s.now a.i)
