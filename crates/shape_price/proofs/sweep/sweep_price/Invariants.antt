use Rattle.std.proofs.Common.{◌*◌, ◌+◌, ◌-◌, ◌≡◌, ◌≤◌}
use Rattle.scene_field.specs.Fields.{section_at, sections_at}
use Rattle.shape.specs.Price.{pairs_price}
use Rattle.shape_price.proofs.sweep.sweep_price.Given as goal

abbrev pub invariant-loop-k : goal.invariant-loop-k
invariant-loop-k l =
    (l.a ≡ section_at l.s (l.at + 48 * (l.k - 1))) × (l.sum ≡ pairs_price (sections_at l.s l.k l.at)) × (l.sum ≤ 8 * (l.k - 1))
