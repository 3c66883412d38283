-- What the operations answer, by the types of src/lib.rt: the number and values of each case.
use Rattle.std.specs.Prelude.{◌≡◌, ℕ, List, take, ℤ, Float, Result, Ok, Err}
use Rattle.lists.specs.Slices.{Slice}
use Rattle.refusal.specs.declared.Refused.{Refused}
use Rattle.validate.specs.Verdict.{Validation}
use Rattle.validate.specs.Validate.{validate}
use Rattle.mesh_answer.specs.declared.Counted.{Counted}
use Rattle.mesh_answer.specs.declared.Answer.{Answer as CAnswer}
use Rattle.mesh_answer.specs.declared.JudgedBuild.{JudgedBuild}
use Rattle.mesh.specs.PerBuffer.{Counts as Numbers, Buffers, entering, leaving}
use Rattle.mesh.specs.Operations.{Answer, Built, refused_with, build}

-- the counts, or the refusal and the object named
abbrev pub Answered : Type 0
Answered = Result Counted Refused

abbrev pub counts_from : Counted → Numbers
counts_from c = record { vertices = c.vertices; normals = c.normals; indices = c.indices; spans = c.spans; account = c.account; log = c.log; millimetres = c.millimetres }

-- the answer that C gets
abbrev pub answer_from : CAnswer → Answer
answer_from a = record { number = a.refusal; object = a.object; counts = counts_from a.counts }

-- a call that is not refused
abbrev pub accepts : Counted → Answer
accepts c = record { number = 0; object = 0; counts = counts_from c }

abbrev pub answer_of : Answered → Answer
answer_of (Err refused) = refused_with refused.refusal refused.object
answer_of (Ok c) = accepts c

-- an answer of Build and what the buffers hold
abbrev pub built_with : Answered → Buffers → Built
built_with r b = record { answer = answer_of r; buffers = b }

-- the same of the lent slices, by what they hold as the call begins and as it ends
abbrev pub Builds : (Buffers → Built) → Answered → Slice Float → Slice Float → Slice ℕ → Slice ℕ → Slice ℕ → Slice ℕ → Slice ℤ → Type 0
Builds f r vs ns is ss accounts ls ms = built_with r (leaving vs ns is ss accounts ls ms) ≡ f (entering vs ns is ss accounts ls ms)

-- Build, and then Validate on the measured first numbers of the buffers: nothing of them where Build is refused
pub record BuiltAndJudged : Type 0 where
  pub built : Built
  pub validation : Validation

abbrev pub judged_with : JudgedBuild → Buffers → BuiltAndJudged
judged_with r b = record { built = built_with r.answer b; validation = r.validation }

unfoldable pub judged : Built → BuiltAndJudged
judged r =
    record { built = r; validation = validate (take r.answer.counts.vertices r.buffers.vertices) (take r.answer.counts.indices r.buffers.indices) }

unfoldable pub build_and_validate : List ℕ → Buffers → BuiltAndJudged
build_and_validate bytes b = judged (build bytes b)
