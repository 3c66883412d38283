-- `coords::thin::thin_bound` meets its contract. A limit above zero has a pattern from 1 to the infinity's, so nothing wraps, and the middle is no NaN. Assumes nothing.
use Rattle.std.proofs.Common.{T, arith, subst, sym, ◌*◌, ◌+◌, ◌-◌, ◌<◌, ◌∙◌, ◌≤◌}
use lib.Ieee.{binary32, binary64, to_bits}
use Rattle.float.specs.Contract.Thin.{middle}
use Rattle.float.proofs.Rounding.{no_nan_bits}
use Rattle.float.proofs.Thin.{above_bits, above_no_nan, bound_above, bound_low, naughts}
use Rattle.coords.proofs.thin.thin_bound.Goals as goal
use Rattle.coords.proofs.thin.thin_bound.Goals.{Then-limit}

pattern : (c : Then-limit) → (0 < to_bits binary32 c.args.limit) × (to_bits binary32 c.args.limit ≤ 0x7f80_0000)
pattern c = above_bits c.args.limit (subst T (sym c.well_formed.0.1) tt) c.if-limit.true

pub float_to_bits-b : goal.float_to_bits-b
float_to_bits-b c = above_no_nan c.args.limit c.if-limit.true

pub overflow_cast-b : goal.overflow_cast-b
overflow_cast-b c = record { fits = omega (arith, (pattern c).1) }

pub overflow_mul-m : goal.overflow_mul-m
overflow_mul-m c = record { fits = omega (arith, (pattern c).1) }

pub overflow_sub-m : goal.overflow_sub-m
overflow_sub-m c = omega (arith, (pattern c).0)

pub overflow_mul-m-then-limit : goal.overflow_mul-m-then-limit
overflow_mul-m-then-limit c = record { fits = omega (arith, (pattern c).1) }

pub overflow_add-m : goal.overflow_add-m
overflow_add-m c = record { fits = omega (arith, (pattern c).1) }

pub float_from_bits-m : goal.float_from_bits-m
float_from_bits-m c = no_nan_bits binary64 (0x3800_0000_0000_0000 + (2 * to_bits binary32 c.args.limit - 1) * 0x1000_0000) (omega (arith, (pattern c).1))

pub returns-then-limit : goal.returns-then-limit
unfolding middle
returns-then-limit c = sym (bound_above c.args.limit c.if-limit.true)

pub returns : goal.returns
returns c = naughts ∙ sym (bound_low c.args.limit c.if-limit.false)
