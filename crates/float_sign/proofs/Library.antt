-- The library's words for a float's sign mean what specs/Signs and specs/Number of `float` say. Assumes nothing.
use Rattle.std.proofs.Common.{◌≡◌, refl, ap, ◌∙◌, Bool, not}
use Rattle.std.specs.Float.{nan, inf, fin, float_is_finite, float_signum, is_sign_negative}
use lib.Ieee.{Float}
use Rattle.float.specs.Number.{is_finite}
use Rattle.float.specs.Signs.{signum, negative}

pub finite_is : (x : Float) → float_is_finite x ≡ is_finite x
unfolding float_is_finite is_finite
finite_is nan = refl
finite_is (inf s) = refl
finite_is (fin s m e) = refl

pub signum_is : (x : Float) → float_signum x ≡ signum x
unfolding float_signum signum
signum_is nan = refl
signum_is (inf s) = refl
signum_is (fin s m e) = refl

negative_is : (x : Float) → is_sign_negative x ≡ negative x
unfolding is_sign_negative
negative_is nan = refl
negative_is (inf s) = refl
negative_is (fin s m e) = refl

-- the sign, from what `is_sign_negative` and `is_sign_positive` answer
pub negative_by : (x : Float) {r : Bool} → r ≡ is_sign_negative x → r ≡ negative x
negative_by x h = h ∙ negative_is x

pub positive_by : (x : Float) {r : Bool} → r ≡ not (is_sign_negative x) → r ≡ not (negative x)
positive_by x h = h ∙ ap not (negative_is x)
