-- `float_sign::total_less` meets its contract: of two equal numbers neither is less, and of two that differ the signs are not asked. Assumes nothing.
use Rattle.std.proofs.Common.{Bool, T, false, not, refl, subst, sym, true, ◌&&◌, ◌||◌, ◌≡◌}
use Rattle.std.specs.Float.Order.{eq-not_lt}
use mathlib.Core.Bool.{false≢true}
use lib.Ieee.{Float, lt, eq}
use Rattle.float.specs.Signs.{negative, total_less}
use Rattle.float.proofs.Signs.{equal_no_nan}
use Rattle.float_sign.proofs.Library.{negative_by, positive_by}
use Rattle.float_sign.proofs.total_less.Goals as goal

equal : (x y : Float) → eq x y ≡ true → (negative x && not (negative y)) ≡ total_less x y
unfolding total_less
equal x y e = go (lt x y) (eq x y) (negative x && not (negative y)) (eq-not_lt x y (subst T (sym e) tt)) e
  where
    go : (l q p : Bool) → (T l → ⊥) → q ≡ true → p ≡ (l || (q && p))
    go true q p n e = absurd (n tt)
    go false true p n e = refl
    go false false p n e = absurd (false≢true e)

apart : (x y : Float) → eq x y ≡ false → lt x y ≡ total_less x y
unfolding total_less
apart x y e = go (lt x y) (eq x y) (negative x && not (negative y)) e
  where
    go : (l q p : Bool) → q ≡ false → l ≡ (l || (q && p))
    go true q p e = refl
    go false false p e = refl
    go false true p e = absurd (false≢true (sym e))

pub is_sign_negative-requires : goal.is_sign_negative-requires
is_sign_negative-requires c = (equal_no_nan c.args.x c.args.y c.if-x-y.true).0

pub is_sign_positive-requires : goal.is_sign_positive-requires
is_sign_positive-requires c = (equal_no_nan c.args.x c.args.y c.if-x-y.true).1

pub returns-then-x-y : goal.returns-then-x-y
returns-then-x-y c = let a = c.args in
    rw (negative_by a.x c.is_sign_negative.ensures, positive_by a.y c.is_sign_positive.ensures) (equal a.x a.y c.if-x-y.true)

pub returns-else-x-y : goal.returns-else-x-y
returns-else-x-y c = apart c.args.x c.args.y c.if-x-y.false
