-- `validate_mesh::faults::pass_finite` meets its contract: the search from k on gives what the search from 0 gives. Assumes nothing.
use Rattle.std.proofs.Common.{arith, refl, sym, ◌∙◌}
use Rattle.validate_mesh.proofs.Passing.{four_passed}
use Rattle.validate_mesh.proofs.faults.pass_finite.Goals as goal

pub loop-k-init : goal.loop-k-init
loop-k-init c = (omega arith, refl)

pub four_finite-requires : goal.four_finite-requires
four_finite-requires c = c.loop-k-test.true

pub returns-then-not-four_finite : goal.returns-then-not-four_finite
returns-then-not-four_finite c = c.loop-k.invariant.1

pub loop-k-preserved : goal.loop-k-preserved
loop-k-preserved c = (omega arith, four_passed c.args.vertices.now c.loop-k.k _ c.loop-k-test.true (sym c.four_finite.ensures ∙ c.if-not-four_finite.false) c.loop-k.invariant.1)

pub returns : goal.returns
returns c = c.loop-k.invariant.1
