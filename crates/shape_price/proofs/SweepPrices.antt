-- The price of sweeps, one pair at a time. Assumes nothing.
use mathlib.Core.Path.{◌≡◌, refl, sym, ap, ap₂, ◌∙◌}
use mathlib.Core.List.{List, [], ◌∷◌}
use Prim.Native.Nat.{ℕ, zero, suc, ◌+◌, ◌-◌, ◌*◌, ◌<◌}
use native.Mathlib.Nat.{add-zero}
use native.Mathlib.Omega.{arith}
use lib.ListN.{length}
use Rattle.lists.specs.Loops.{list, sum_of}
use Rattle.lists.proofs.Lists.{sum_append}
use Rattle.object.specs.declared.Section.{Section}
use Rattle.object.specs.Object.{sweep, round_sweep}
use Rattle.scene_field.specs.Fields.{sections_at}
use Rattle.scene.proofs.Parts.{sections_length}
use Rattle.shape.specs.Shapes.{pairs}
use Rattle.shape.specs.Price.{pair_price, pairs_price, caps_price, offered}
use Rattle.shape_section.proofs.Neighbours.{pairs_next}

-- the price of each pair, in a list
abbrev prices : Section → Section → List ℕ
prices a b = pair_price a b ∷ []

pairs_sum : (ss : List Section) → sum_of (λ p. p) (pairs prices ss) ≡ pairs_price ss
unfolding pairs pairs_price sum_of
pairs_sum [] = refl
pairs_sum (a ∷ []) = refl
pairs_sum (a ∷ b ∷ rest) = ap (λ (m : ℕ). pair_price a b + m) (pairs_sum (b ∷ rest))

-- with one section more, one pair more
pub price_next : (g : ℕ → Section) (k : ℕ) {a b : Section} {sum p : ℕ} → 0 < k → sum ≡ pairs_price (list g k 0) → a ≡ g (k - 1) → b ≡ g k → p ≡ pair_price a b
    → sum + p ≡ pairs_price (list g (k + 1) 0)
unfolding sum_of
price_next g k {a} {b} {sum} {p} z h x y e =
    ap₂ ◌+◌ (h ∙ sym (pairs_sum (list g k 0))) (e ∙ ap₂ pair_price x y ∙ sym (add-zero (pair_price (g (k - 1)) (g k))))
    ∙ sym (sum_append (λ p. p) (pairs prices (list g k 0)) (prices (g (k - 1)) (g k)))
    ∙ ap (sum_of (λ p. p)) (sym (pairs_next prices g k z))
    ∙ pairs_sum (list g (k + 1) 0)

caps_price_lem : (c : ℕ) (ss : List Section) → 0 < length ss → caps_price c ss ≡ c
unfolding caps_price
caps_price_lem c [] h = absurd (omega arith)
caps_price_lem c (s ∷ ss) h = refl

module _ (s : List ℕ) (at : ℕ) where
  pub sweep_price_none : (n : ℕ) → n ≡ 0 → 0 ≡ offered (sweep (sections_at s n at))
  unfolding offered pairs_price caps_price sections_at list
  sweep_price_none zero e = refl
  sweep_price_none (suc n) e = absurd (omega arith)

  pub sweep_price_is : (n p : ℕ) → 0 < n → p ≡ pairs_price (sections_at s n at) → p + 4 ≡ offered (sweep (sections_at s n at))
  unfolding offered
  sweep_price_is n p h e = ap₂ ◌+◌ e (sym (caps_price_lem 4 (sections_at s n at) (let l = sections_length s n at in omega arith)))

pub round_price_none : (ss : List Section) → length ss ≡ 0 → 0 ≡ offered (round_sweep ss)
unfolding offered caps_price
round_price_none [] h = refl
round_price_none (s ∷ ss) h = absurd (omega arith)

pub round_price_is : (ss : List Section) (n : ℕ) → length ss ≡ n → 0 < n → 32 * (n - 1) + 28 ≡ offered (round_sweep ss)
unfolding offered
round_price_is ss n e h = ap₂ ◌+◌ (ap (λ (m : ℕ). 32 * (m - 1)) (sym e)) (sym (caps_price_lem 28 ss (omega arith)))
