use Rattle.std.proofs.Common.{ap, sym, ◌*◌, ◌∙◌}
use Rattle.scene_field.specs.Fields.{all32}
use Rattle.scene.specs.Contract.Answers.{end_of}
use Rattle.scene_check.proofs.NumberLaws.{rest_past, rest_numbers, rest_good}
use Rattle.scene_check.proofs.record.Records.check_numbers.Goals as goal

pub returns-then-self-i : goal.returns-then-self-i
returns-then-self-i c = let a = c.args in
    λ o. ap end_of (rest_past a.self.end a.i (4 * a.n) (all32 a.self.bytes.now a.n a.i) o c.if-self-i.true)

pub returns-then-not-all_allowed32 : goal.returns-then-not-all_allowed32
returns-then-not-all_allowed32 c = let a = c.args in
    λ o. ap end_of (rest_numbers a.self.end a.i (4 * a.n) (all32 a.self.bytes.now a.n a.i) o c.requires.0 c.if-self-i.false (sym c.all_allowed32.ensures ∙ c.if-not-all_allowed32.true))

pub returns : goal.returns
returns c = let a = c.args in
    λ o. ap end_of (rest_good a.self.end a.i (4 * a.n) (all32 a.self.bytes.now a.n a.i) o c.requires.0 c.if-self-i.false (sym c.all_allowed32.ensures ∙ c.if-not-all_allowed32.false))
