use Rattle.std.proofs.Common.{length, ◌-◌, ◌≡◌, ◌≤◌}
use Rattle.lid_clip_ear.specs.Contract.Laid.{first_at}
use Rattle.lid_clip_ear.proofs.laid.LaidRing.pass_clear.Given as goal

abbrev pub invariant-loop-k : goal.invariant-loop-k
invariant-loop-k l = (l.k ≤ length l.self.ring.now) × (first_at l.self l.t l.k ≡ first_at l.self l.t l.from)

abbrev pub decreases-loop-k : goal.decreases-loop-k
decreases-loop-k l = length l.self.ring.now - l.k
