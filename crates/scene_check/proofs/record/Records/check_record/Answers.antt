use Rattle.std.proofs.lemmas.Result.{err_from_is_err_and}
use Rattle.std.proofs.Common.{Err, ap, arith, ◌+◌, ◌∙◌}
use Rattle.scene.proofs.RecordLaws.{record_past, record_begun, record_other}
use Rattle.scene_field.specs.Fields.{u32_at}
use Rattle.scene.specs.Scene.{kind_at}
use Rattle.scene.specs.Contract.Answers.{end_of}
use Rattle.scene_check.proofs.record.Records.check_record.Goals as goal

pub returns-then-self-i : goal.returns-then-self-i
returns-then-self-i c = let a = c.args in
    ap end_of (record_past a.self.bytes.now a.self.end a.i (omega arith))

pub returns-then-self-i-2 : goal.returns-then-self-i-2
returns-then-self-i-2 c = let a = c.args in
    ap end_of (record_past a.self.bytes.now a.self.end a.i c.if-self-i-2.true)

pub returns-in_err-try_from : goal.returns-in_err-try_from
returns-in_err-try_from c = let a = c.args in
    let f = c.in_err-try_from in
    let p = err_from_is_err_and c.from_residual.result c.from_residual.ensures.1 in
    p.1 ∙ ap Err p.2 ∙ ap Err f.ensures.0 ∙ ap end_of (record_other a.self.bytes.now a.self.end a.i c.if-self-i.false c.if-self-i-2.false f.ensures.1)

pub returns : goal.returns
returns c = let a = c.args in
    c.check_kind.ensures (u32_at a.self.bytes.now (a.i + 1)) ∙ ap (λ k. end_of (kind_at a.self.bytes.now a.self.end (u32_at a.self.bytes.now (a.i + 1)) (a.i + 5) k)) (c.in_ok-try_from.ensures) ∙ ap end_of (record_begun a.self.bytes.now a.self.end a.i c.if-self-i.false c.if-self-i-2.false)
