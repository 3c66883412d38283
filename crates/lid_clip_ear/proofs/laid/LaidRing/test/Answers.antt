use Rattle.lid_clip_ear.proofs.TestLaws.{told_of}
use Rattle.lid_clip_ear.proofs.laid.LaidRing.test.Goals as goal

pub returns : goal.returns
returns c = told_of _ _ _ c.map.ensures.cases c.find_block.ensures
