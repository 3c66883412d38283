-- To compute with this crate's definitions, name `computes` on an `unfolding` line: it stands for all of them, and for the operations of lib.Ieee that they use.
use lib.Ieee.{add, sub, mul, div, lt, eq, le, of_bits, to_bits, round, units, size, is_nan}
use Rattle.float.specs.Rounding.{root_step, root_in, root, rounded, root_of, square_root, convert}
use Rattle.float.specs.Signs.{magnitude, signum, larger, total_less}
use Rattle.float.specs.Number.{is_finite, allowed32, allowed64}
use Rattle.float.specs.Contract.Thin.{middle, thin_bound}

unfoldable pub computes : Unit {0}
unfolding add sub mul div lt eq le of_bits to_bits round units size is_nan root_step root_in root rounded root_of square_root convert magnitude signum larger total_less is_finite allowed32 allowed64 middle thin_bound
computes = tt
