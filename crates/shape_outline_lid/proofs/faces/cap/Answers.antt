use Rattle.std.proofs.Common.{arith}
use Rattle.shape_outline_lid.proofs.LidLaws.{most_triangles, few_triangles}
use Rattle.shape_outline_lid.proofs.faces.cap.Goals as goal

pub cap_in-requires : goal.cap_in-requires
cap_in-requires c = let p = c.requires in record { sizes = (omega arith, omega arith); outline_holds = p; n_in_bounds = (omega (arith, c.if-o-le32.true), omega (arith, c.if-o-le32.true, most_triangles _ _ _ _ _ p.0.placed, p.0.placed.counted.total)) }

pub cap_in-requires-2 : goal.cap_in-requires-2
cap_in-requires-2 c = let p = c.requires in record { sizes = (omega arith, omega arith); outline_holds = p; n_in_bounds = (omega (arith, p.0.placed.counted.total, p.0.placed.counted.most), omega (arith, few_triangles _ _ _ _ _ p.0.placed)) }
