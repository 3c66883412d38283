-- What joining a hole, or several, does to the buffers of the ring and of the log. Definitions only.
use Rattle.std.specs.Prelude.{ℕ, ◌+◌, ◌≡◌, List, [], ◌∷◌, length, get_or, take}
use Rattle.lists.specs.Loops.{sum_of, over}
use Rattle.lists.specs.Slices.{Slice}
use Rattle.lid.specs.declared.Flat.{Flat}
use Rattle.lid.specs.Log.{Logged}
use Rattle.lid.specs.Rings.{Hole}
use Rattle.lid.specs.Bridges.{bridge, spliced, bridge_entry, join_all}
use Rattle.lid.specs.Contract.Written.{log_with}

-- a hole was joined to a ring: the ring with it is written over the front of the buffer, and its entry is entry n of the log
pub record Joins (fs : List Flat) (ring hole : List ℕ) (g : ℕ) (buffer buffer' log log' : List ℕ) (n r : ℕ) : Type 0 where
  pub joined : buffer' ≡ over (spliced ring hole (bridge fs ring hole)) buffer
  pub places : r ≡ length (spliced ring hole (bridge fs ring hole))
  pub written : log' ≡ log_with log n (bridge_entry g (bridge fs ring hole) ∷ [])

-- the same of the lent slices, the ring in the first m places of its own
abbrev pub HoleJoined : List Flat → List ℕ → ℕ → Slice ℕ → ℕ → Slice ℕ → ℕ → ℕ → Type 0
HoleJoined fs hole g ring m log n r =
    Joins fs (take m ring.entry.now) hole g ring.entry.now ring.exit.now log.entry.now log.exit.now n r

-- holes were joined to a ring, to j
pub record JoinsAll (j : Logged) (buffer buffer' log log' : List ℕ) (n r : ℕ) : Type 0 where
  pub joined : buffer' ≡ over j.ring buffer
  pub places : r ≡ length j.ring
  pub written : log' ≡ log_with log n j.log

-- the same of the lent slices
abbrev pub HolesJoined : List Flat → List Hole → Slice ℕ → ℕ → Slice ℕ → ℕ → ℕ → Type 0
HolesJoined fs holes ring m log n r =
    JoinsAll (join_all fs holes (take m ring.entry.now)) ring.entry.now ring.exit.now log.entry.now log.exit.now n r

-- the places that holes of some numbers take in a ring: their corners, and two more each
abbrev pub places_joined : List ℕ → List ℕ → ℕ
places_joined counts gs = sum_of (λ g. get_or counts g 0 + 2) gs
