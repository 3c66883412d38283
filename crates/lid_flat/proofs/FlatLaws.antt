-- Flat corners as the code reads them. Assumes nothing.
use mathlib.Core.Path.{◌≡◌, sym, ap, ap₂, ◌∙◌}
use mathlib.Core.List.{List}
use Prim.Native.Nat.{ℕ, ◌<◌, ◌≤◌}
use native.Mathlib.Nat.{zero-add}
use native.Mathlib.Omega.{arith}
use lib.ListN.{length, get_or, get_or-eq_default}
use lib.Ieee.{Float, nan}
use Rattle.lists.specs.Loops.{list}
use Rattle.lists.proofs.Lists.{get_d_list, get_d_any, length_list}
use Rattle.float.specs.Number.{zerof}
use Rattle.lid.specs.declared.Flat.{Flat}
use Rattle.lid.specs.Rings.{corner, flat0}
use Rattle.lid.specs.Contract.Rings.{flats}

abbrev flat : Float → Float → Flat
flat x y = record { x = x; y = y }

module _ (xs ys : List Float) (i : ℕ) where
  corner_in : i < length xs → corner (flats xs ys) i ≡ flat (get_or xs i zerof) (get_or ys i zerof)
  unfolding corner flats
  corner_in h =
      get_d_list (λ j. flat (get_or xs j zerof) (get_or ys j zerof)) (length xs) 0 i flat0 h
      ∙ ap (λ (j : ℕ). flat (get_or xs j zerof) (get_or ys j zerof)) (zero-add i)

  pub flat_in : (y : Float) → y ≡ get_or ys i zerof → i < length xs → flat (get_or xs i nan) y ≡ corner (flats xs ys) i
  flat_in y e h = ap₂ flat (get_d_any xs i nan zerof h) e ∙ sym (corner_in h)

  pub flat_none : length xs ≤ i → flat0 ≡ corner (flats xs ys) i
  unfolding corner flats
  flat_none h =
      let f : ℕ → Flat = λ j. flat (get_or xs j zerof) (get_or ys j zerof) in
      sym (get_or-eq_default (list f (length xs) 0) flat0 (omega (arith, length_list f (length xs) 0)))
