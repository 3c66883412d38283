use Rattle.std.proofs.Common.{drop, length, map, ◌≡◌}
use lib.Seq.{sets}
use Rattle.millimetre.specs.Millimetres.{millimetres}
use Rattle.millimetre.proofs.fill.Given as goal

abbrev pub invariant-loop-i : goal.invariant-loop-i
invariant-loop-i l = (length l.list ≡ length l.initial.list) × (sets l.list l.i (map millimetres (drop l.i l.coordinates)) ≡ sets l.initial.list 0 (map millimetres l.coordinates))
