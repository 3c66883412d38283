-- `test_refusals::put_scene` is safe: the place stays within the scene. Assumes nothing.
use Rattle.std.proofs.Common.{◌≡◌, ◌≤◌, length}
use Rattle.test_refusals.proofs.put_scene.Given as goal

abbrev pub invariant-loop : goal.invariant-loop
invariant-loop g l = (length l.to ≡ length l.initial.to) × (l.at ≤ length l.initial.to)
