-- The stored scenes that are built give the answers of the Rust: computed on the definitions. Assumes nothing.
use mathlib.Core.Path.{◌≡◌, refl}
use mathlib.Core.Bool.{true, ◌&&◌}
use Rattle.lists.specs.Loops.{every}
use Rattle.test_samples.specs.Examples.{agrees}
use Rattle.test_samples.proofs.Examples.{compared}
use Rattle.test_built.specs.Outlines.{outlines, lists}

pub stored_agree : (every agrees outlines && every agrees lists) ≡ true
unfolding compared outlines lists
stored_agree = refl
