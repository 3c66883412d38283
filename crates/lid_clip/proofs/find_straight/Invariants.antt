use Rattle.std.proofs.Common.{length, ◌-◌, ◌≡◌}
use Rattle.lid.specs.Clipping.{is_straight}
use Rattle.lid_flat.specs.Flats.{flats_in}
use Rattle.lists.specs.Loops.{first}
use Rattle.lid_clip.proofs.find_straight.Given as goal

abbrev pub invariant-loop-i : goal.invariant-loop-i
invariant-loop-i l = first (is_straight (flats_in l.polygon) l.ring) (length l.ring - l.i) l.i ≡ first (is_straight (flats_in l.polygon) l.ring) (length l.ring) 0
