use Rattle.std.proofs.Common.{arith, sym, ◌+◌}
use Rattle.scene_field.proofs.Fields.{u16_past, byte_past}
use Rattle.scene_field.specs.Fields.{u16_at}
use Rattle.scene_field.proofs.u16_at.Goals as goal

pub returns-then-s-i : goal.returns-then-s-i
returns-then-s-i c = sym (u16_past _ _ c.if-s-i.true)

pub returns : goal.returns
unfolding u16_at
returns c = let a = c.args in
    omega (arith, byte_past a.s.now (a.i + 1) (omega arith))
