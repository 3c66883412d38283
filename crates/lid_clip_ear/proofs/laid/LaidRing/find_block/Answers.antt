use Rattle.std.proofs.Common.{arith, refl, ◌∙◌}
use Rattle.lists.proofs.Loops.{first_found, first_next, first_end}
use Rattle.lid_clip_ear.proofs.laid.LaidRing.find_block.Goals as goal

pub returns-then-self-k : goal.returns-then-self-k
returns-then-self-k c = first_end _ _ _ _ c.if-self-k.true refl

pub returns-then-not-clear_at : goal.returns-then-not-clear_at
returns-then-not-clear_at c = first_found _ _ _ _ c.if-self-k.false (rw (← c.clear_at.ensures, c.if-not-clear_at.true)) refl

pub returns : goal.returns
returns c = c.find_from.ensures ∙ c.pass_clear.ensures ∙ first_next _ _ _ _ c.if-self-k.false (rw (← c.clear_at.ensures, c.if-not-clear_at.false)) refl

pub pass_clear-requires : goal.pass_clear-requires
pass_clear-requires c = record { evenly = c.requires; from_in_bounds = omega arith }
