use Rattle.std.proofs.Common.{arith, ◌∙◌}
use Rattle.mesh_bound.specs.Most.{most_of}
use Rattle.mesh_bound_scene.proofs.Headers.{most_outline, most_sweep}
use Rattle.mesh_bound_scene.proofs.most_at.Goals as goal

pub overflow_sub-corners : goal.overflow_sub-corners
overflow_sub-corners c = let l = rw c.in-Outline.is at c.requires in
    omega (arith, l.total)

pub outline_most-requires : goal.outline_most-requires
outline_most-requires c = let l = rw c.in-Outline.is at c.requires in
    (omega (arith, l.total, l.most), l.few)

pub sweep_most-requires : goal.sweep_most-requires
sweep_most-requires c = rw c.in-Sweep.is at c.requires

pub returns-in-Solid : goal.returns-in-Solid
unfolding most_of
returns-in-Solid c = rw c.in-Solid.is c.solid_most.ensures

pub returns-in-Outline : goal.returns-in-Outline
returns-in-Outline c = let a = c.args in
    let l = rw c.in-Outline.is at c.requires in
    rw c.in-Outline.is (c.outline_most.ensures ∙ most_outline a.s.now a.i _ _ _ _ l)

pub returns-in-Sweep : goal.returns-in-Sweep
returns-in-Sweep c = let a = c.args in
    rw c.in-Sweep.is (c.sweep_most.ensures ∙ most_sweep a.s.now a.i _ _)
