use Rattle.std.proofs.Common.{ap, ◌*◌, ◌+◌}
use Rattle.scene.proofs.RecordLaws.{corners_many}
use Rattle.scene.specs.Contract.Answers.{end_of}
use Rattle.scene_field.specs.Fields.{counts_at}
use Rattle.scene_check.proofs.NumberLaws.{corners_rest}
use Rattle.scene_check.proofs.record.Records.check_corners.Goals as goal

pub returns-then-n-gt-MOST_CORNERS : goal.returns-then-n-gt-MOST_CORNERS
returns-then-n-gt-MOST_CORNERS c = let a = c.args in
    λ id closed. ap end_of (corners_many a.self.bytes.now a.self.end id closed a.outer (counts_at a.self.bytes.now a.holes (a.i + 4)) (a.i + 4 + 2 * a.holes) (a.outer + c.sum_counts.result) (ap (λ n. a.outer + n) c.sum_counts.ensures.0) c.if-n-gt-MOST_CORNERS.true)

pub returns : goal.returns
returns c = let a = c.args in
    let sum = c.sum_counts in
    λ id closed. corners_rest a.self.bytes.now a.self.end id closed a.outer (counts_at a.self.bytes.now a.holes (a.i + 4)) (a.i + 4 + 2 * a.holes) (a.outer + sum.result) (ap (λ n. a.outer + n) sum.ensures.0) c.if-n-gt-MOST_CORNERS.false c.check_numbers.ensures
