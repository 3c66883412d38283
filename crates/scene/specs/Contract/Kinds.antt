-- The byte that stands for a kind of record. Assumes nothing.
use Rattle.std.specs.Prelude.{ℕ, ◌≡◌, ◌<◌, Result, MatchResult}
use Rattle.refusal.specs.declared.Refusal.{Refusal}
use Rattle.refusal.specs.declared.Refusal.TheVariants.{Kind as NoKind}
use Rattle.scene.specs.declared.kinds.Kind.{Kind}
use Rattle.scene.specs.declared.kinds.Kind.TheVariants.{Unsized, Box, Cylinder, OpenOutline, ClosedOutline, Sweep, RoundSweep}

abbrev pub byte_of : Kind → ℕ
byte_of Unsized = 0
byte_of Box = 1
byte_of Cylinder = 2
byte_of OpenOutline = 3
byte_of ClosedOutline = 4
byte_of Sweep = 5
byte_of RoundSweep = 6

-- the kind that this byte stands for, or the refusal of a byte that stands for none
abbrev pub Decodes : ℕ → Result Kind Refusal → Type 0
Decodes byte r = MatchResult r (λ kind. byte_of kind ≡ byte) (λ f. (f ≡ NoKind) × (6 < byte))
