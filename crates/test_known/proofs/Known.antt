-- The starred known shapes of document 01, section 9, together through one computation on the definitions. Assumes nothing.
use mathlib.Core.Path.{◌≡◌, refl}
use mathlib.Core.Bool.{true}
use Rattle.lists.specs.Loops.{every}
use Rattle.test_known.specs.Known.{refusal_of, account_is, verdict_on, triangle_verdict, is_area, courtyard, courtyard_lid, courtyard_mesh, tests}
use Rattle.test_samples.proofs.Computes.{all}

pub known : every (λ b. b) tests ≡ true
unfolding all refusal_of account_is verdict_on triangle_verdict is_area courtyard courtyard_lid courtyard_mesh tests
known = refl
