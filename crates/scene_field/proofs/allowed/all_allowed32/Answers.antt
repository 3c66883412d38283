use Rattle.std.proofs.Common.{ap, sym, ◌∙◌}
use lib.Ieee.{binary32, of_bits}
use Rattle.float.specs.Number.{allowed32}
use Rattle.lists.proofs.Tests.{every_start, every_fails, every_next, every_end}
use Rattle.scene_field.specs.Fields.{f32_at, all32}
use Rattle.scene_field.proofs.allowed.all_allowed32.Goals as goal

pub loop-k-init : goal.loop-k-init
unfolding all32
loop-k-init c = every_start _ _ _

pub returns-then-not-is_allowed32 : goal.returns-then-not-is_allowed32
unfolding f32_at
returns-then-not-is_allowed32 c = let l = c.loop-k in
    every_fails _ _ _ l.k _ c.loop-k-test.true (sym (ap (λ b. allowed32 (of_bits binary32 b)) c.u32_in.ensures) ∙ sym c.is_allowed32.ensures ∙ c.if-not-is_allowed32.true) l.invariant

pub loop-k-preserved : goal.loop-k-preserved
unfolding f32_at
loop-k-preserved c = let l = c.loop-k in
    every_next _ _ _ l.k _ c.loop-k-test.true (sym (ap (λ b. allowed32 (of_bits binary32 b)) c.u32_in.ensures) ∙ sym c.is_allowed32.ensures ∙ c.if-not-is_allowed32.false) l.invariant

pub returns : goal.returns
returns c = every_end _ _ _ c.loop-k.k _ c.loop-k-test.false c.loop-k.invariant
