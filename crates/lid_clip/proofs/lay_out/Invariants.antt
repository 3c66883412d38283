use Rattle.std.proofs.Common.{◌≤◌, length}
use Rattle.lid_flat.specs.Flats.{flats_in}
use Rattle.lid.specs.Rings.{corner}
use Rattle.lid_clip.proofs.HeldLaws.{Laying}
use Rattle.lid_clip.proofs.lay_out.Given as goal

abbrev pub invariant-loop-k : goal.invariant-loop-k
invariant-loop-k l = (l.k ≤ length l.ring) × Laying (λ p. (corner (flats_in l.polygon) p).x) l.ring l.initial.rxs l.rxs l.k × Laying (λ p. (corner (flats_in l.polygon) p).y) l.ring l.initial.rys l.rys l.k
