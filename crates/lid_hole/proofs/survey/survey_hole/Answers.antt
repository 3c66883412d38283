use Rattle.std.proofs.Common.{arith, length-take-le, sym}
use Rattle.lid_hole.proofs.HoleLaws.{hole_front}
use Rattle.lid_hole.proofs.survey.survey_hole.Goals as goal

pub slice_bounds-right-end-2 : goal.slice_bounds-right-end-2
slice_bounds-right-end-2 c = sym (length-take-le _ _ (omega arith))

pub returns : goal.returns
returns c = let w = c.write_hole-small.ensures in
    record { right_value = rw (hole_front _ _ _ _ _ _ w.hole_after) at c.right-right.ensures; small_value = w.value; hole_after = w.hole_after }
