use Rattle.mesh_progress.proofs.Pass.Walks.{added_fits, added_wrote}
use Rattle.mesh_build.proofs.pass.write_objects.Goals as goal

pub count_numbers-requires : goal.count_numbers-requires
count_numbers-requires c = let a = c.args in
    added_fits a.limit a.s.now a.n c.requires.0 c.requires.1 c.write_behind.ensures

pub returns : goal.returns
returns c = λ os e. added_wrote c.count_numbers.ensures (c.write_behind.ensures os e)
