-- The size of the millimetres of a bounded number; and of every coordinate as far as a built vertex goes: in reach, and below 2 ^ 37. Assumes nothing.
use mathlib.Core.Path.{◌≡◌, refl, sym, subst}
use mathlib.Core.Bool.{Bool, true, false}
use mathlib.Core.List.{List, map}
use Prim.Native.Nat.{ℕ, zero, suc, ◌*◌, ◌^◌, ◌≤◌, ◌<◌, zero-le}
use native.Mathlib.Nat.{le_trans, le_of_eq, lt_of_le_of_lt}
use native.Mathlib.Omega.{arith}
use lib.IntN.{ℤ, pos, nat_abs}
use lib.Dec.{T, lit<, lit≤}
use lib.Ieee.{Float, nan, inf, fin, up, down, le}
use lib.Ieee.Fits.{down_pos}
use lib.Ieee.Order.{le_of_values}
use Rattle.lists.specs.Each.{Each}
use Rattle.lists.proofs.Lists.{each_imp, each_map}
use Rattle.float.specs.Signs.{magnitude}
use Rattle.float.proofs.Within.{Within}
use Rattle.millimetre.specs.Millimetres.{nearest_whole, signed, millimetres}
use Rattle.millimetre.specs.Contract.Reach.{InReach}
use Rattle.millimetre.proofs.Rule.{nearest_most}
use Rattle.millimetre.proofs.Product.{reach_is}

size_of : (s : Bool) (n : ℕ) → nat_abs (signed s n) ≡ n
size_of true zero = refl
size_of true (suc n) = refl
size_of false n = refl

pub size_most : (q j : ℕ) (x : Float) → Within q j x → nat_abs (millimetres x) ≤ 1000 * (q * 2 ^ j)
unfolding millimetres
size_most q j nan w = zero-le
size_most q j (inf s) w = zero-le
size_most q j (fin s m e) w =
    le_trans (le_of_eq (size_of s (nearest_whole (1000 * (m * up e)) (down e))))
    (nearest_most (1000 * (m * up e)) (down e) (1000 * (q * 2 ^ j)) (down_pos e) (plain (m * up e) (q * 2 ^ j) (down e) w.small))
  where
    plain : (u k d : ℕ) → u ≤ k * d → 1000 * u ≤ 1000 * k * d
    plain u k d h = omega arith

-- of one that is no larger than 2 ^ 40
pub within_reach : (q j : ℕ) (x : Float) → q * 2 ^ j ≤ 2 ^ 40 → Within q j x → InReach x
unfolding magnitude
within_reach q j nan l w = absurd w.known
within_reach q j (inf s) l w = absurd w.known
within_reach q j (fin s m e) l w =
    subst (λ (y : Float). T (le (fin false m e) y)) (sym reach_is)
    (le_of_values (fin false m e) (fin false 1 (pos 40)) (m * up e) (down e) (2 ^ 40) 1 (down_pos e) (lit< tt) (refl, refl) (refl, refl) (plain (m * up e) (q * 2 ^ j) (down e) w.small l))
  where
    plain : (u k d : ℕ) → u ≤ k * d → k ≤ 2 ^ 40 → u * 1 ≤ 2 ^ 40 * d
    plain u k d h l = omega (arith, native.Mathlib.Nat.mul-le-mul_right d l)

-- ---- of coordinates as far as a built vertex goes (crates/mesh/proofs/Vertices)

abbrev pub Small : ℤ → Type 0
Small n = nat_abs n < 2 ^ 37

pub coordinates_in_reach : (cs : List Float) → Each (Within 6 24) cs → Each InReach cs
coordinates_in_reach cs = each_imp (Within 6 24) InReach (λ x. within_reach 6 24 x (lit≤ tt)) cs

pub coordinates_small : (cs : List Float) → Each (Within 6 24) cs → Each Small (map millimetres cs)
coordinates_small cs = each_map (Within 6 24) Small millimetres (λ x w. lt_of_le_of_lt (size_most 6 24 x w) (lit< tt)) cs
