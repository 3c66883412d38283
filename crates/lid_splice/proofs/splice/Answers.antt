use Rattle.std.proofs.Common.{◌∙◌}
use Rattle.std.proofs.lemmas.List.{take_rest}
use Rattle.lid_splice.proofs.SpliceLaws.{spliced_in}
use Rattle.lid_splice.proofs.splice.Goals as goal

pub returns : goal.returns
returns c = let a = c.args in
    spliced_in a.ring.now a.hole.now a.at.0 a.j.0 c.requires.hole_in_bounds c.requires.j_in_bounds c.copy_within.new.self c.copy_within.ensures.after _ _
    (c.copy_from_slice.ensures.after ∙ take_rest a.hole.now a.j.0) c.copy_from_slice-2.ensures.after
