use Rattle.std.proofs.Common.{sym, ◌∙◌}
use Rattle.scene.proofs.HeaderLaws.{header_read}
use Rattle.scene.specs.Contract.Headers.{body_at}
use Rattle.scene_header.proofs.header_at.Goals as goal

pub returns-in-Unsized : goal.returns-in-Unsized
unfolding body_at
returns-in-Unsized c = let a = c.args in
    (rw c.u32_at-id.ensures at c.solid_header.ensures) ∙ header_read a.s.now a.i c.try_from.result _ c.try_from.ensures (sym c.unwrap_or.ensures ∙ c.in-Unsized.is)

pub returns-in-Box : goal.returns-in-Box
unfolding body_at
returns-in-Box c = let a = c.args in
    (rw (c.u32_at-id.ensures, c.box_at.ensures) at c.solid_header-in-Box.ensures) ∙ header_read a.s.now a.i c.try_from.result _ c.try_from.ensures (sym c.unwrap_or.ensures ∙ c.in-Box.is)

pub returns-in-Cylinder : goal.returns-in-Cylinder
unfolding body_at
returns-in-Cylinder c = let a = c.args in
    (rw (c.u32_at-id.ensures, c.cylinder_at.ensures) at c.solid_header-in-Cylinder.ensures) ∙ header_read a.s.now a.i c.try_from.result _ c.try_from.ensures (sym c.unwrap_or.ensures ∙ c.in-Cylinder.is)

pub returns-in-OpenOutline : goal.returns-in-OpenOutline
unfolding body_at
returns-in-OpenOutline c = let a = c.args in
    (rw c.u32_at-id.ensures at c.outline_header.ensures) ∙ header_read a.s.now a.i c.try_from.result _ c.try_from.ensures (sym c.unwrap_or.ensures ∙ c.in-OpenOutline.is)

pub returns-in-ClosedOutline : goal.returns-in-ClosedOutline
unfolding body_at
returns-in-ClosedOutline c = let a = c.args in
    (rw c.u32_at-id.ensures at c.outline_header-in-ClosedOutline.ensures) ∙ header_read a.s.now a.i c.try_from.result _ c.try_from.ensures (sym c.unwrap_or.ensures ∙ c.in-ClosedOutline.is)

pub returns-in-Sweep : goal.returns-in-Sweep
unfolding body_at
returns-in-Sweep c = let a = c.args in
    (rw c.u32_at-id.ensures at c.sweep_header.ensures) ∙ header_read a.s.now a.i c.try_from.result _ c.try_from.ensures (sym c.unwrap_or.ensures ∙ c.in-Sweep.is)

pub returns-in-RoundSweep : goal.returns-in-RoundSweep
unfolding body_at
returns-in-RoundSweep c = let a = c.args in
    (rw c.u32_at-id.ensures at c.sweep_header-in-RoundSweep.ensures) ∙ header_read a.s.now a.i c.try_from.result _ c.try_from.ensures (sym c.unwrap_or.ensures ∙ c.in-RoundSweep.is)
