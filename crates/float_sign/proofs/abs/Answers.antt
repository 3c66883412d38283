-- `float_sign::abs` meets its contract: the pattern without its sign's bit. Assumes nothing.
use Rattle.std.proofs.Common.{T, le_of_eq, le_trans, subst, sym, ◌%◌, ◌^◌}
use native.Mathlib.Nat.{mod-mod}
use lib.Ieee.{binary32, to_bits}
use Rattle.float.proofs.Rounding.{not_nan, pattern_le, no_nan_bits}
use Rattle.float.proofs.Signs.{nan_magnitude, clear_sign}
use Rattle.float_sign.proofs.abs.Goals as goal

pub returns-then-x : goal.returns-then-x
returns-then-x c = nan_magnitude c.args.x c.if-x.true

pub float_to_bits-result : goal.float_to_bits-result
float_to_bits-result c = not_nan c.args.x c.if-x.false

pub float_from_bits-result : goal.float_from_bits-result
float_from_bits-result c = let b = to_bits binary32 c.args.x in
    no_nan_bits binary32 (b % 2 ^ 31) (le_trans (le_of_eq (mod-mod b (2 ^ 31))) (pattern_le binary32 c.args.x (subst T (sym c.well_formed.0.1) tt) (not_nan c.args.x c.if-x.false)))

pub returns : goal.returns
returns c = clear_sign binary32 c.args.x (subst T (sym c.well_formed.0.1) tt)
