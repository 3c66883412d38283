-- The notes after a step of clipping. Definitions only.
use Rattle.std.specs.Prelude.{cond, List, ℕ, length, leb}
use Rattle.lid.specs.declared.Flat.{Flat}
use Rattle.lid_clip_ear.specs.Contract.Ears.{searched}

-- the notes after a step
unfoldable pub step_notes : List Flat → List ℕ → List ℕ → List ℕ
step_notes fs ring why = cond (leb (length ring) 3) why (searched fs ring (length ring) 0 why)
