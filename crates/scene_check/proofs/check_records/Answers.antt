use Rattle.std.proofs.lemmas.Result.{err_from_is_err_and}
use Rattle.std.proofs.Common.{rules, Ok, Err, ap, arith, sym, ◌≡◌, ◌∙◌}
use Rattle.scene.proofs.SceneLaws.{plus, plus_none, ahead_all, ahead_start, ahead_bad, ahead_good, ahead_end, ahead_short}
use Rattle.scene_check.proofs.Ended.{ends, fails}
use Rattle.scene_check.proofs.check_records.Goals as goal

pub loop-k-init : goal.loop-k-init
loop-k-init c = let a = c.args in
    sym (ahead_all a.records.bytes.now a.records.end a.n) ∙ plus_none _

pub returns-then-u32_in-i : goal.returns-then-u32_in-i
returns-then-u32_in-i c = let a = c.args in
    let l = c.loop-k in
    sym (l.invariant ∙ ap (plus l.k) (ahead_start a.records.bytes.now a.records.end a.n l.k l.i c.loop-k-test.true (λ h. c.if-u32_in-i.true (c.u32_in.ensures ∙ h))))

pub returns-in_err-i : goal.returns-in_err-i
returns-in_err-i c = let a = c.args in
    let l = c.loop-k in
    let f = fails _ _ c.check_record.result c.in_err-i.ensures.variant c.in_err-i.ensures.cases in
    let h : c.in_err-i.field-0.0 ≡ record { refusal = f.0; object = l.k } = (let q = f.2 in search rules) in
    let p = err_from_is_err_and c.from_residual.result c.from_residual.ensures.1 in
    p.1 ∙ ap Err (p.2 ∙ h) ∙ sym (l.invariant ∙ ap (plus l.k) (ahead_bad a.records.bytes.now a.records.end a.n l.k l.i c.loop-k-test.true f.0 (sym c.u32_in.ensures ∙ c.if-u32_in-i.false) (f.1 ∙ c.check_record.ensures)))

pub loop-k-preserved : goal.loop-k-preserved
loop-k-preserved c = let a = c.args in
    let l = c.loop-k in
    l.invariant ∙ ahead_good a.records.bytes.now a.records.end a.n l.k l.i c.loop-k-test.true _ (sym c.u32_in.ensures ∙ c.if-u32_in-i.false) (ends c.check_record.result c.in_ok-i.i c.in_ok-i.ensures.cases ∙ c.check_record.ensures) l.k

pub returns-then-i-records : goal.returns-then-i-records
returns-then-i-records c = let a = c.args in
    let l = c.loop-k in
    let end : l.k ≡ a.n = omega arith in
    sym (rw end at (l.invariant ∙ ap (plus l.k) (ahead_short a.records.bytes.now a.records.end a.n l.k l.i c.loop-k-test.false c.if-i-records.true)))

pub returns : goal.returns
returns c = let a = c.args in
    let l = c.loop-k in
    sym (l.invariant ∙ ap (plus l.k) (ahead_end a.records.bytes.now a.records.end a.n l.k l.i c.loop-k-test.false c.if-i-records.false) ∙ ap Ok (omega arith))
