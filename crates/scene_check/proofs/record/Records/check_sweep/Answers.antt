use Rattle.std.proofs.Common.{ap}
use Rattle.scene.proofs.RecordLaws.{sweep_past, sweep_many}
use Rattle.scene.specs.Contract.Answers.{end_of}
use Rattle.scene_check.proofs.NumberLaws.{sweep_rest}
use Rattle.scene_check.proofs.record.Records.check_sweep.Goals as goal

pub returns-then-self-i-lt2 : goal.returns-then-self-i-lt2
returns-then-self-i-lt2 c = let a = c.args in
    λ id shape. ap end_of (sweep_past a.self.bytes.now a.self.end id shape a.i c.if-self-i-lt2.true)

pub returns-then-n-gt-MOST_SECTIONS : goal.returns-then-n-gt-MOST_SECTIONS
returns-then-n-gt-MOST_SECTIONS c = let a = c.args in
    λ id shape. ap end_of (sweep_many a.self.bytes.now a.self.end id shape a.i c.u16_in-n.result c.u16_in-n.ensures c.requires c.if-self-i-lt2.false c.if-n-gt-MOST_SECTIONS.true)

pub returns : goal.returns
returns c = let a = c.args in
    λ id shape. sweep_rest a.self.bytes.now a.self.end id shape a.i c.u16_in-n.result c.u16_in-n.ensures c.requires c.if-self-i-lt2.false c.if-n-gt-MOST_SECTIONS.false c.check_numbers.ensures
