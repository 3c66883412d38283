-- The search for the edge that a ray meets, from one place of the ring on.
use Rattle.std.specs.Prelude.{◌≡◌, ℕ, ◌-◌, Bool, List, Option, length, get_or}
use Rattle.lists.specs.Loops.{next, loop}
use Rattle.lid.specs.declared.Flat.{Flat}
use Rattle.lid.specs.declared.Hit.{Hit}
use Rattle.lid.specs.Rings.{corner}
use Rattle.lid.specs.Bridges.{passes, hit_at}

-- the edge from place k on does not meet the line through m along x
abbrev pub passes_at : List Flat → List ℕ → Flat → ℕ → Bool
passes_at fs ring m k = passes m (corner fs (get_or ring k 0)) (corner fs (get_or ring (next (length ring) k) 0))

-- what the ray has hit first after the edges from place k on, where it had hit h before them
abbrev pub hit_from : List Flat → List ℕ → Flat → ℕ → Option Hit → Option Hit
hit_from fs ring m k h = loop (hit_at fs ring m) (length ring - k) k h

-- the edges from place i up to place k change no hit
abbrev pub PassedOver : List Flat → List ℕ → Flat → ℕ → ℕ → Type 0
PassedOver fs ring m i k = (h : Option Hit) → hit_from fs ring m k h ≡ hit_from fs ring m i h
