-- What Validate answers: the verdict on a mesh, `Ok tt` where nothing is wrong with it, or the refusal of the call.
use Rattle.std.specs.Prelude.{Result}
use Rattle.refusal.specs.declared.Refusal.{Refusal}
use Rattle.validate.specs.declared.MeshError.{MeshError}

abbrev pub Verdict : Type 0
Verdict = Result (Unit {0}) MeshError

abbrev pub Validation : Type 0
Validation = Result Verdict Refusal
