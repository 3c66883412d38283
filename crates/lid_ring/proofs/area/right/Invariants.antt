use Rattle.std.proofs.Common.{drop, ◌≡◌}
use Rattle.lid.specs.Rings.{right_step, right}
use Rattle.lid_flat.specs.Flats.{flats_in}
use Rattle.lists.specs.Loops.{fold}
use Rattle.lid_ring.proofs.area.right.Given as goal

abbrev pub invariant-loop-c : goal.invariant-loop-c
invariant-loop-c l = fold (right_step (flats_in l.polygon)) l.best (drop l.c-index l.ring) ≡ right (flats_in l.polygon) l.ring
