-- `float_sqrt::root_guess` meets its contract: the digits and the exponent are a number's, and the remainder bounds the result. Assumes nothing.
use Rattle.std.proofs.Common.{arith}
use lib.Ieee.{binary64}
use Rattle.float.proofs.Rounding.{no_nan_bits}
use Rattle.float_sqrt.proofs.root_guess.Goals as goal

pub float_from_bits-t : goal.float_from_bits-t
float_from_bits-t c = no_nan_bits binary64 _ (omega arith)
