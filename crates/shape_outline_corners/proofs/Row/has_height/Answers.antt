use Rattle.std.proofs.Common.{arith, refl, rules, tests, not, ℕ, ◌*◌, ◌+◌, ◌∙◌}
use Rattle.std.proofs.lemmas.Iterator.{YieldsList-from_range, serves_from_Range}
use Rattle.std.proofs.lemmas.Iterator.Search.{any_from_yields_List}
use Rattle.coords.specs.Coords.{same_point}
use Rattle.object.specs.declared.Corner.{Corner}
use Rattle.scene_field.specs.Fields.{corner_at, corners_at}
use Rattle.shape.specs.Shapes.{has_height}
use Rattle.shape_outline_corners.proofs.Searches.{any_some}
use Rattle.shape_outline_corners.proofs.Row.has_height.Goals as goal

pub any-requires-clause-callable : goal.any-requires-clause-callable
any-requires-clause-callable c = serves_from_Range (λ x q r. search rules) (λ x lo hi. search (rules, arith))

pub returns : goal.returns
unfolding has_height corners_at
returns c =
    let a = c.args.self in
    let at = λ (k : ℕ). corner_at a.s.now (a.at + 24 * k) in
    any_from_yields_List (λ (k : ℕ). not (same_point (at k).base (at k).top)) _ _ c.any.result c.any.ensures.ran (YieldsList-from_range 0 a.n a.n refl (omega arith)) (λ x b q k. search (rules, tests))
    ∙ any_some (λ (c : Corner). not (same_point c.base c.top)) at a.n 0
