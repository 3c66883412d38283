-- What Build decides before it touches a buffer, by the lengths of the buffers. Definitions only.
use Rattle.std.specs.Prelude.{◌≡◌, ℕ, List, Float, Result, Ok, Err}
use Rattle.object.specs.Object.{Object}
use Rattle.refusal.specs.declared.Refused.{Refused}
use Rattle.scene.specs.Scene.{scene, accepted}
use Rattle.scene.specs.Contract.Answers.{checked_of}
use Rattle.mesh.specs.PerBuffer.{Counts, Buffers}
use Rattle.mesh.specs.Contract.PerBuffer.{FitCounts}
use Rattle.mesh.specs.Operations.{output, counts_of, too_short, refused_build, build_output, build_scene}
use Rattle.mesh.specs.Demand3.{LongEnough}

-- to write so many objects, or to refuse
abbrev pub Plan : Type 0
Plan = Result ℕ Refused

-- a refusal is Build's answer wherever so many numbers are to be written into buffers of these lengths; n objects are written only where they fit, and fit the program's counts
abbrev pub PlanBy : Counts → Counts → ℕ → Plan → Type 0
PlanBy has needs n (Err r) = (w b : Buffers) → refused_build r.refusal r.object b ≡ build_output w b (too_short has needs)
PlanBy has needs n (Ok k) = (k ≡ n) × LongEnough has needs × FitCounts needs

-- the same for the objects of a scene, at a limit
abbrev pub PlanHolds : Float → List ℕ → Counts → Plan → Type 0
PlanHolds limit s has (Err r) = (b : Buffers) → counts_of b ≡ has → refused_build r.refusal r.object b ≡ build_scene limit (scene s) b
PlanHolds limit s has (Ok n) =
    (Ok n ≡ checked_of (scene s))
    × ((os : List Object) → scene s ≡ accepted os → LongEnough has (counts_of (output limit os)) × FitCounts (counts_of (output limit os)))
