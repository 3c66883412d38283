use Rattle.scene_field.specs.Fields.{f64_at}
use Rattle.scene_field.proofs.allowed.pair_allowed.Goals as goal

pub returns : goal.returns
unfolding f64_at
returns c = rw (c.is_allowed64-2.ensures, c.u64_in-2.ensures, c.is_allowed64.ensures, c.u64_in.ensures)
