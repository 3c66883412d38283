use Rattle.std.proofs.Common.{Bool, ap₂, arith, false, true, ◌+◌, ◌∙◌, ◌≤◌}
use mir.Val.{bool_byte}
use Rattle.face_judge.proofs.ThinCounts.{two_thin}
use Rattle.face_judge.proofs.quad.thin_in_quad.Goals as goal

at_most : (x y : Bool) → bool_byte x + bool_byte y ≤ 2
at_most true true = omega arith
at_most true false = omega arith
at_most false true = omega arith
at_most false false = omega arith

pub returns : goal.returns
returns c = record { upper_bound = at_most c.no_area-x.result c.no_area-y.result; value = λ out base n is. ap₂ (λ (x y : Bool). bool_byte x + bool_byte y) c.no_area-x.ensures c.no_area-y.ensures ∙ two_thin _ out _ _ _ _ base n is }

pub overflow_add-result : goal.overflow_add-result
overflow_add-result c = omega (arith, at_most c.no_area-x.result c.no_area-y.result)
