-- The stored scenes that are refused give the answers of the Rust: computed on the definitions. Assumes nothing.
use mathlib.Core.Path.{◌≡◌, refl}
use mathlib.Core.Bool.{true}
use Rattle.lists.specs.Loops.{every}
use Rattle.test_samples.specs.Examples.{digits, lent_for, agrees_with, agrees, refusals}
use Rattle.test_samples.proofs.Computes.{all}

unfoldable pub compared : Unit {0}
unfolding all digits lent_for agrees_with agrees
compared = tt

pub refusals_agree : every agrees refusals ≡ true
unfolding compared refusals
refusals_agree = refl
