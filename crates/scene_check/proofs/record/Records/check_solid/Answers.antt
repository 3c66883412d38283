use Rattle.std.proofs.Common.{ap}
use Rattle.scene.proofs.RecordLaws.{solid_past}
use Rattle.scene.specs.Contract.Answers.{end_of}
use Rattle.scene_check.proofs.NumberLaws.{solid_numbers, solid_allowed}
use Rattle.scene_check.proofs.record.Records.check_solid.Goals as goal

pub returns-then-self-i : goal.returns-then-self-i
returns-then-self-i c = let a = c.args in
    λ id x. ap end_of (solid_past a.self.bytes.now a.self.end id a.i a.w x c.if-self-i.true)

-- the three tests are the definition's
pub returns-then-not-allowed : goal.returns-then-not-allowed
returns-then-not-allowed c = let a = c.args in
    λ id x. ap end_of (solid_numbers a.self.bytes.now a.self.end id a.i a.w x c.requires.0 c.if-self-i.false (rw (← c.all_allowed32.ensures, ← c.orientation_allowed.ensures, ← c.all_allowed32-2.ensures) c.if-not-allowed.true))

pub returns : goal.returns
returns c = let a = c.args in
    λ id x. ap end_of (solid_allowed a.self.bytes.now a.self.end id a.i a.w x c.requires.0 c.if-self-i.false (rw (← c.all_allowed32.ensures, ← c.orientation_allowed.ensures, ← c.all_allowed32-2.ensures) c.if-not-allowed.false))
