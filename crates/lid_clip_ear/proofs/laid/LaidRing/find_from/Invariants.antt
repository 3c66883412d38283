use Rattle.std.proofs.Common.{◌≡◌}
use Rattle.lid_clip_ear.specs.Contract.Laid.{first_at}
use Rattle.lid_clip_ear.proofs.laid.LaidRing.find_from.Given as goal

abbrev pub invariant-loop-k : goal.invariant-loop-k
invariant-loop-k l = first_at l.self l.t l.k ≡ first_at l.self l.t l.from
