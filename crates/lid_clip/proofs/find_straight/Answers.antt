use Rattle.std.proofs.Common.{sym, ◌∙◌}
use Rattle.lists.proofs.Loops.{first_start, first_found, first_next, first_end}
use Rattle.lid_clip.proofs.find_straight.Goals as goal

pub loop-i-init : goal.loop-i-init
loop-i-init c = first_start _ _

pub returns-then-is_straight : goal.returns-then-is_straight
returns-then-is_straight c = first_found _ _ _ _ c.loop-i-test.true (sym c.is_straight.ensures ∙ c.if-is_straight.true) c.loop-i.invariant

pub loop-i-preserved : goal.loop-i-preserved
loop-i-preserved c = first_next _ _ _ _ c.loop-i-test.true (sym c.is_straight.ensures ∙ c.if-is_straight.false) c.loop-i.invariant

pub returns : goal.returns
returns c = first_end _ _ _ _ c.loop-i-test.false c.loop-i.invariant
