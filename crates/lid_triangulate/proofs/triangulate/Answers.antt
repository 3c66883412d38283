use Rattle.std.proofs.Common.{arith, lit≤}
use Rattle.lid_triangulate.proofs.LidLaws.{buffers_fit, all_places, few_places}
use Rattle.lid_triangulate.proofs.triangulate.Goals as goal

pub cut_within-requires : goal.cut_within-requires
cut_within-requires c = let k = c.args.counts in buffers_fit k.outer k.holes.now 32 (lit≤ tt) c.requires.1 (few_places k.outer k.holes.now c.hole_start.result c.hole_start.ensures (omega arith))

pub cut_within-requires-2 : goal.cut_within-requires-2
cut_within-requires-2 c = let k = c.args.counts in buffers_fit k.outer k.holes.now 576 (lit≤ tt) c.requires.1 (all_places k.outer k.holes.now c.requires.0 c.requires.1)
