use Rattle.std.proofs.Common.{arith, refl, sym, ◌∙◌}
use Rattle.lid_clip_ear.proofs.TestLaws.{pass_clear, pass_beyond}
use Rattle.lid_clip_ear.proofs.laid.LaidRing.pass_clear.Goals as goal

pub loop-k-init : goal.loop-k-init
loop-k-init c = (omega arith, refl)

pub loop-k-preserved-then-beyond_four : goal.loop-k-preserved-then-beyond_four
loop-k-preserved-then-beyond_four c = (omega arith, pass_beyond c.args.self c.args.t _ _ (omega arith) c.loop-k.invariant.1 (sym c.beyond_four.ensures ∙ c.if-beyond_four.true))

pub returns-then-not-clear_four : goal.returns-then-not-clear_four
returns-then-not-clear_four c = c.loop-k.invariant.1

pub loop-k-preserved : goal.loop-k-preserved
loop-k-preserved c = (omega arith, pass_clear c.args.self c.args.t _ _ (omega arith) c.loop-k.invariant.1 (sym c.clear_four.ensures ∙ c.if-not-clear_four.false))

pub returns : goal.returns
returns c = c.loop-k.invariant.1
