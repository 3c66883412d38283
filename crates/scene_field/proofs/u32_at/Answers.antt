use Rattle.std.proofs.Common.{rules, sym}
use Rattle.scene_field.proofs.Fields.{u32_past}
use Rattle.scene_field.specs.Fields.{u32_at}
use Rattle.scene_field.proofs.u32_at.Goals as goal

pub returns-then-s-i : goal.returns-then-s-i
returns-then-s-i c = sym (u32_past _ _ c.if-s-i.true)

pub returns : goal.returns
unfolding u32_at
returns c = search rules
