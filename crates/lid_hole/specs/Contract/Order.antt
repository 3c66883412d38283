-- Holes in joining order, by their numbers. Definitions only.
use Rattle.std.specs.Prelude.{ℕ, ◌≡◌, Bool, false, cond, List, [], ◌∷◌, length, get_or, Float}
use Rattle.lists.specs.Loops.{loop, over}
use Rattle.lists.specs.Slices.{Slice}
use Rattle.float.specs.Number.{zerof}
use Rattle.float.specs.Signs.{total_less}

-- hole h among others in joining order, by their greatest first coordinates
unfoldable pub insert_by : List Float → ℕ → List ℕ → List ℕ
insert_by rights h [] = h ∷ []
insert_by rights h (g ∷ gs) = let later = insert_by rights h gs in cond (total_less (get_or rights g zerof) (get_or rights h zerof)) (h ∷ g ∷ gs) (g ∷ later)

abbrev pub order_step : List Float → List Bool → ℕ → List ℕ → List ℕ
order_step rights small g order = cond (get_or small g false) order (insert_by rights g order)

unfoldable pub order_of : List Float → List Bool → List ℕ
order_of rights small = loop (order_step rights small) (length small) 0 []

-- r holes were written in this order over the front of a buffer
pub record Ordered (order buffer buffer' : List ℕ) (r : ℕ) : Type 0 where
  pub stands : buffer' ≡ over order buffer
  pub holes : r ≡ length order

-- the same of a lent slice
abbrev pub HolesOrdered : List ℕ → Slice ℕ → ℕ → Type 0
HolesOrdered order s r = Ordered order s.entry.now s.exit.now r
