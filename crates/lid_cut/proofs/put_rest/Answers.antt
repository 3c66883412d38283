use Rattle.lid_cut.proofs.put_rest.Goals as goal

pub returns : goal.returns
returns c = (c.put_left.ensures, c.put_last-c.ensures.triangles_after, rw c.put_last-c.ensures.value)
