-- `float_sqrt::rounded_root` meets its contract: shifting loses nothing, and the root has 25 digits at most. Assumes nothing.
use Rattle.std.proofs.Common.{ap, arith, subst, sym, ℕ, ◌%◌, ◌*◌, ◌+◌, ◌<◌, ◌^◌, ◌∙◌, ◌≡◌}
use Rattle.float.specs.Rounding.{root}
use Rattle.float.proofs.Root.{shifted_lt, shifted, shifted_root_lt}
use Rattle.float_sqrt.proofs.rounded_root.Goals as goal

-- the shifted number's root, from what `whole_root` promises
root_of_lem : (t v r : ℕ) → t < 2 ^ 32 → r ≡ root (t * 2 ^ (17 + v % 2) % 2 ^ 64) → r ≡ root (t * 2 ^ (17 + v % 2))
root_of_lem t v r h e = e ∙ ap root (shifted t v h)

small : (t v r : ℕ) → t < 2 ^ 32 → r ≡ root (t * 2 ^ (17 + v % 2) % 2 ^ 64) → r < 2 ^ 25
small t v r h e = subst (λ (n : ℕ). n < 2 ^ 25) (sym (root_of_lem t v r h e)) (shifted_root_lt t v h)

pub whole_root-r-requires : goal.whole_root-r-requires
whole_root-r-requires c = let t = c.args.top in
    let v = c.args.v in
    let h : t < 2 ^ 32 = omega arith in
    (subst (λ (n : ℕ). n < 2 ^ 50) (sym (shifted t v h)) (shifted_lt t v h), c.root_guess.ensures)

pub overflow_add-result-2 : goal.overflow_add-result-2
overflow_add-result-2 c = omega (arith, small c.args.top c.args.v c.whole_root-r.result (omega arith) c.whole_root-r.ensures)

pub overflow_cast-result : goal.overflow_cast-result
overflow_cast-result c = omega (arith, small c.args.top c.args.v c.whole_root-r.result (omega arith) c.whole_root-r.ensures)

pub overflow_add-result-3 : goal.overflow_add-result-3
overflow_add-result-3 c = omega (arith, small c.args.top c.args.v c.whole_root-r.result (omega arith) c.whole_root-r.ensures)

pub returns : goal.returns
returns c = rw (root_of_lem c.args.top c.args.v c.whole_root-r.result (omega arith) c.whole_root-r.ensures)
