-- `float_sign::max` meets its contract: its tests are those of `larger`. Assumes nothing.
use Rattle.std.proofs.Common.{Bool, cond, false, not, refl, sym, true, ◌∙◌, ◌≡◌}
use lib.Ieee.{Float, is_nan, lt}
use Rattle.float.specs.Signs.{negative, larger}
use Rattle.float_sign.proofs.Library.{positive_by}
use Rattle.float_sign.proofs.max.Goals as goal

-- `larger`, from what its five tests give
picked : (x y : Float) (a b c d p : Bool) → a ≡ is_nan x → b ≡ is_nan y → c ≡ lt x y → d ≡ lt y x → p ≡ not (negative x) → cond a y (cond b x (cond c y (cond d x (cond p x y)))) ≡ larger x y
unfolding larger
picked x y a b c d p ea eb ec ed ep = rw (ea, eb, ec, ed, ep) (turned (negative x))
  where
    turned : (n : Bool) → cond (is_nan x) y (cond (is_nan y) x (cond (lt x y) y (cond (lt y x) x (cond (not n) x y)))) ≡ cond (is_nan x) y (cond (is_nan y) x (cond (lt x y) y (cond (lt y x) x (cond n y x))))
    turned true = refl
    turned false = refl

pub returns-then-is_nan : goal.returns-then-is_nan
returns-then-is_nan c = let a = c.args in
    picked a.x a.y true (is_nan a.y) (lt a.x a.y) (lt a.y a.x) (not (negative a.x)) (sym c.if-is_nan.true ∙ c.is_nan.ensures.value) refl refl refl refl

pub returns-then-is_nan-2 : goal.returns-then-is_nan-2
returns-then-is_nan-2 c = let a = c.args in
    picked a.x a.y false true (lt a.x a.y) (lt a.y a.x) (not (negative a.x)) (sym c.if-is_nan.false ∙ c.is_nan.ensures.value) (sym c.if-is_nan-2.true ∙ c.is_nan-2.ensures.value) refl refl refl

pub returns-then-x-y : goal.returns-then-x-y
returns-then-x-y c = let a = c.args in
    picked a.x a.y false false true (lt a.y a.x) (not (negative a.x)) (sym c.if-is_nan.false ∙ c.is_nan.ensures.value) (sym c.if-is_nan-2.false ∙ c.is_nan-2.ensures.value) (sym c.if-x-y.true) refl refl

pub returns-then-y-x : goal.returns-then-y-x
returns-then-y-x c = let a = c.args in
    picked a.x a.y false false false true (not (negative a.x)) (sym c.if-is_nan.false ∙ c.is_nan.ensures.value) (sym c.if-is_nan-2.false ∙ c.is_nan-2.ensures.value) (sym c.if-x-y.false) (sym c.if-y-x.true) refl

pub returns-then-is_sign_positive : goal.returns-then-is_sign_positive
returns-then-is_sign_positive c = let a = c.args in
    picked a.x a.y false false false false true (sym c.if-is_nan.false ∙ c.is_nan.ensures.value) (sym c.if-is_nan-2.false ∙ c.is_nan-2.ensures.value) (sym c.if-x-y.false) (sym c.if-y-x.false) (sym c.if-is_sign_positive.true ∙ positive_by a.x c.is_sign_positive.ensures)

pub returns-else-is_sign_positive : goal.returns-else-is_sign_positive
returns-else-is_sign_positive c = let a = c.args in
    picked a.x a.y false false false false false (sym c.if-is_nan.false ∙ c.is_nan.ensures.value) (sym c.if-is_nan-2.false ∙ c.is_nan-2.ensures.value) (sym c.if-x-y.false) (sym c.if-y-x.false) (sym c.if-is_sign_positive.false ∙ positive_by a.x c.is_sign_positive.ensures)
