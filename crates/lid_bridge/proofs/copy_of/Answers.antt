use Rattle.std.proofs.Common.{Option, Some, None, unwrap_or, refl, ◌≡◌, ap, ◌∙◌}
use Rattle.lid.specs.declared.RingPlace.{RingPlace}
use Rattle.lid.specs.Bridges.{or_else, copy_of}
use Rattle.lid.specs.Contract.Steps.{numbered}
use Rattle.lid_bridge.proofs.copy_of.Goals as goal

by_number : (found : Option RingPlace) (t : RingPlace) → (unwrap_or found t).0 ≡ or_else (numbered found) t.0
unfolding or_else
by_number None t = refl
by_number (Some p) t = refl

pub returns : goal.returns
unfolding copy_of
returns c =
    rw (← (rw c.number_at-c.ensures at c.find_copy.ensures))
    (ap (λ (p : RingPlace). p.0) c.unwrap_or.ensures ∙ by_number c.find_copy.result c.args.target)
