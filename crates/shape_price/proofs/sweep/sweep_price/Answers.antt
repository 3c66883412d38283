-- `shape_price::sweep::sweep_price` meets its contract: the sum is the price of the pairs among the first k sections. Assumes nothing.
use Rattle.std.proofs.Common.{ap, arith, refl, ℕ, ◌*◌, ◌+◌, ◌-◌, ◌∙◌, ◌≡◌}
use Rattle.lists.specs.Loops.{list}
use Rattle.scene_field.specs.Fields.{section_at, sections_at}
use Rattle.shape.specs.Price.{pairs_price}
use Rattle.shape_price.proofs.SweepPrices.{price_next, sweep_price_none, sweep_price_is}
use Rattle.shape_price.proofs.sweep.sweep_price.Goals as goal

pub returns-then-n-eq0 : goal.returns-then-n-eq0
returns-then-n-eq0 c = let a = c.args in sweep_price_none a.s.now a.at a.n c.if-n-eq0.true

pub loop-k-init : goal.loop-k-init
unfolding pairs_price sections_at list
loop-k-init c = let a = c.args in let e : a.at ≡ a.at + 48 * 0 = omega arith in (c.section_at-a.ensures ∙ ap (λ (p : ℕ). section_at a.s.now p) e, refl, omega arith)

pub loop-k-preserved : goal.loop-k-preserved
unfolding sections_at
loop-k-preserved c =
    let a = c.args in
    let l = c.loop-k in
    let here : a.at + 48 * l.k ≡ a.at + 48 * (l.k + 1 - 1) = omega arith in (
      c.section_at-b.ensures ∙ ap (λ (p : ℕ). section_at a.s.now p) here,
      price_next (λ k. section_at a.s.now (a.at + 48 * k)) l.k l.auto.k l.invariant.1 l.invariant.0 c.section_at-b.ensures c.pair_price-sum.ensures.0,
      omega (arith, c.pair_price-sum.ensures.1),
    )

pub returns : goal.returns
returns c = let a = c.args in let l = c.loop-k in let e : l.k ≡ a.n = omega arith in sweep_price_is a.s.now a.at a.n l.sum (omega arith) (rw e at l.invariant.1)
