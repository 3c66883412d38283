use Rattle.std.proofs.Common.{arith, rules}
use Rattle.decimal.proofs.Texts.{wrote_as}
use Rattle.quote_write.proofs.Whole.{long_text, stored}
use Rattle.quote_write.proofs.quote.Goals.{then-most-s, else-most-s}
use Rattle.quote_write.proofs.quote.Goals as goal

pub returns : goal.returns
returns c = elim c.if-most-s.branch [
  | then-most-s w ↦ (let x = w.put_refused.ensures in
      rw w.to-is (stored (search rules) (omega (arith, x.1)) (wrote_as (long_text c.args.s.now (omega (arith, w.if-most-s.true))) x.0.wrote)))
  | else-most-s w ↦ (let x = w.put_scene.ensures in rw w.to-is (stored (search rules) (omega (arith, x.1)) x.0.wrote))
]
