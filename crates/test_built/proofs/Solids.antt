-- The stored scenes that are built give the answers of the Rust: computed on the definitions. Assumes nothing.
use mathlib.Core.Path.{◌≡◌, refl}
use mathlib.Core.Bool.{true}
use Rattle.lists.specs.Loops.{every}
use Rattle.test_samples.specs.Examples.{agrees}
use Rattle.test_samples.proofs.Examples.{compared}
use Rattle.test_built.specs.Solids.{solids, sweeps}

pub solids_agree : every agrees solids ≡ true
unfolding compared solids
solids_agree = refl

pub sweeps_agree : every agrees sweeps ≡ true
unfolding compared sweeps
sweeps_agree = refl
