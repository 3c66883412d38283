-- All objects of a scene written and counted. Definitions only.
use Rattle.std.specs.Prelude.{◌≡◌, ℕ, List, Float}
use Rattle.std.proofs.lemmas.List.Edits.{sets}
use Rattle.object.specs.Object.{Object}
use Rattle.scene.specs.Scene.{scene, accepted}
use Rattle.mesh_progress.specs.declared.Progress.{Progress}
use Rattle.mesh_answer.specs.declared.Counted.{Counted}
use Rattle.mesh_answer.specs.Answers.{counts_from}
use Rattle.mesh.specs.PerBuffer.{each, at, Counts, numbers_for, Buffers}
use Rattle.mesh.specs.Operations.{output, counts_of}

-- the numbers that the counted objects take in each buffer
abbrev pub counted_by : Progress → Counts
counted_by p = numbers_for p.vertices p.kept p.spans p.objects p.entries

-- what is written stands from each buffer's start on; a store past a buffer's end is left out
unfoldable pub stored : Buffers → Buffers → Buffers
stored w b = each (λ k. sets (at b k) 0 (at w k))

-- all objects written and counted
pub record WroteAll (limit : Float) (os : List Object) (c : Counted) (b b' : Buffers) : Type 0 where
  pub counts : counts_from c ≡ counts_of (output limit os)
  pub buffers : b' ≡ stored (output limit os) b

-- those of a scene, where it is accepted
abbrev pub WroteScene : Float → List ℕ → Counted → Buffers → Buffers → Type 0
WroteScene limit s c b b' = (os : List Object) → scene s ≡ accepted os → WroteAll limit os c b b'
