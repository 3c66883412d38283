use Rattle.std.proofs.Common.{Bool, T, ap, arith, false, not, pos, subst, sym, true, ℕ, ℤ, ◌-ℤ◌, ◌<◌, ◌^◌, ◌∙◌, ◌≡◌, ◌≤◌}
use lib.Ieee.{Float, binary32, binary64, mul, to_bits, fits, is_nan}
use lib.Ieee.Fits.{and_i, fits_widens}
use mir.Syntax.{w64}
use mir.Val.{SFits, to_z, of_z}
use mir.Facts.{to_z-of_z, to_z_pos}
use Rattle.millimetre.specs.Millimetres.{signed, millimetres}
use Rattle.millimetre.specs.Contract.Reach.{InReach}
use Rattle.millimetre.proofs.Law.{Counted, counted}
use Rattle.millimetre.proofs.Placed.{placed_bits, placed_le, placed_no_nan, placed_back, difference}
use Rattle.millimetre.proofs.Rule.{summed}
use Rattle.millimetre.proofs.Product.{thousand, reach_no_nan}
use Rattle.millimetre.proofs.millimetres.Goals as goal

held : (x : Float) → fits binary32 x ≡ true → T (fits binary32 x)
held x e = subst T (sym e) tt

law : (x : Float) → fits binary32 x ≡ true → InReach x → (s : Bool) × (n : ℕ) × Counted x s n
law x e h = counted x (held x e) h

-- the sum, whose pattern is read
abbrev sum : Float → Float
sum x = summed (mul binary64 x thousand)

sum_bits : (x : Float) (s : Bool) (n : ℕ) → Counted x s n → to_bits binary64 (sum x) ≡ placed_bits s n
sum_bits x s n k = ap (to_bits binary64) k.rounds.sum ∙ placed_back s n k.few

sum_no_nan : (x : Float) (s : Bool) (n : ℕ) → Counted x s n → T (not (is_nan (sum x)))
sum_no_nan x s n k = subst (λ (y : Float). T (not (is_nan y))) (sym k.rounds.sum) (placed_no_nan s n k.few)

sum_low : (x : Float) (s : Bool) (n : ℕ) → Counted x s n → to_bits binary64 (sum x) < 2 ^ 63
sum_low x s n k = let l = placed_le s n k.few in omega (arith, sum_bits x s n k)

number : (x : Float) (s : Bool) (n : ℕ) → Counted x s n → to_z w64 (to_bits binary64 (sum x)) -ℤ pos 0x4338_0000_0000_0000 ≡ signed s n
number x s n k = ap (λ (z : ℤ). z -ℤ pos 0x4338_0000_0000_0000) (to_z_pos w64 (sum_low x s n k) ∙ ap pos (sum_bits x s n k)) ∙ difference s n k.few

signed_fits : (s : Bool) (n : ℕ) → n ≤ 2 ^ 51 → SFits w64 (signed s n)
signed_fits true Prim.Native.Nat.zero h = record { sfits = omega arith }
signed_fits true (Prim.Native.Nat.suc n) h = record { sfits = omega arith }
signed_fits false n h = record { sfits = omega arith }

number_fits : (x : Float) (s : Bool) (n : ℕ) → Counted x s n → SFits w64 (to_z w64 (to_bits binary64 (sum x)) -ℤ pos 0x4338_0000_0000_0000)
number_fits x s n k = subst (SFits w64) (sym (number x s n k)) (signed_fits s n k.few)

result : (x : Float) (s : Bool) (n : ℕ) → Counted x s n → to_z w64 (of_z w64 (to_z w64 (to_bits binary64 (sum x)) -ℤ pos 0x4338_0000_0000_0000)) ≡ millimetres x
result x s n k = to_z-of_z (number_fits x s n k) ∙ number x s n k ∙ k.is

pub float_to_float-product : goal.float_to_float-product
float_to_float-product c = let x = c.args.x in and_i (fits binary64 x) (not (is_nan x)) (fits_widens x (held x c.well_formed.0.1)) (reach_no_nan x c.requires)

pub float_to_bits-past : goal.float_to_bits-past
float_to_bits-past c = let k = law c.args.x c.well_formed.0.1 c.requires in k.2.product_known

pub overflow_add-past : goal.overflow_add-past
overflow_add-past c = let k = law c.args.x c.well_formed.0.1 c.requires in record { fits = k.2.rounds.fits }

pub float_from_bits-past : goal.float_from_bits-past
float_from_bits-past c = let k = law c.args.x c.well_formed.0.1 c.requires in k.2.rounds.known

pub float_to_bits-result : goal.float_to_bits-result
float_to_bits-result c = let k = law c.args.x c.well_formed.0.1 c.requires in sum_no_nan c.args.x k.0 k.1 k.2

pub overflow_cast-result : goal.overflow_cast-result
overflow_cast-result c = let k = law c.args.x c.well_formed.0.1 c.requires in record { sfits = sum_low c.args.x k.0 k.1 k.2 }

pub overflow_sub-result : goal.overflow_sub-result
overflow_sub-result c = let k = law c.args.x c.well_formed.0.1 c.requires in number_fits c.args.x k.0 k.1 k.2

pub returns : goal.returns
returns c = let k = law c.args.x c.well_formed.0.1 c.requires in result c.args.x k.0 k.1 k.2
