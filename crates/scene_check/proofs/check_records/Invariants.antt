use Rattle.std.proofs.Common.{◌≡◌}
use Rattle.scene.proofs.SceneLaws.{plus, ahead}
use Rattle.scene.specs.Contract.Answers.{checked_of}
use Rattle.scene.specs.Scene.{records_from}
use Rattle.scene_check.proofs.check_records.Given as goal

abbrev pub invariant-loop-k : goal.invariant-loop-k
invariant-loop-k l = checked_of (records_from l.records.bytes.now l.records.end l.n 0 0) ≡ plus l.k (ahead l.records.bytes.now l.records.end l.n l.k l.i)
