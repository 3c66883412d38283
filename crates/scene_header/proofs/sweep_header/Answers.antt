use Rattle.scene_header.proofs.sweep_header.Goals as goal

pub returns : goal.returns
returns c = rw c.u16_at-sections.ensures
