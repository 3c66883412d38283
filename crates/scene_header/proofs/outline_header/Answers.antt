use Rattle.scene_header.proofs.outline_header.Goals as goal

pub returns : goal.returns
returns c = rw (c.sum_counts.ensures.0, c.u16_at-holes.ensures, c.u16_at-outer.ensures)
