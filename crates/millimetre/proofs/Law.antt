-- What the program computes of an f32 in reach, step by step, and that it is `millimetres`. Assumes nothing.
use mathlib.Core.Path.{◌≡◌, sym, ap, ◌∙◌}
use mathlib.Core.Bool.{Bool, not}
use Prim.Native.Nat.{ℕ, ◌*◌, ◌^◌, ◌≤◌}
use native.Mathlib.Nat.{le_trans, le_of_lt}
use lib.Dec.{T, lit≤}
use lib.Pow.{pow_pos}
use lib.Ieee.{Float, nan, inf, fin, binary32, binary64, up, down, mul, is_nan, fits}
use lib.Ieee.Fits.{down_pos, mul-fits}
use lib.Ieee.Exact.{HasValue}
use Rattle.millimetre.specs.Millimetres.{nearest_whole, signed, millimetres}
use Rattle.millimetre.specs.Contract.Reach.{InReach}
use Rattle.millimetre.proofs.Product.{thousand, Thousandfold, thousandfold, product_small}
use Rattle.millimetre.proofs.Rule.{same_nearest, nearest_most, Rounds, rounds}

by_value : (x : Float) (s : Bool) (v j : ℕ) → Thousandfold x s v j → millimetres x ≡ signed s (nearest_whole (v * 2 ^ j) (2 ^ 1074))
unfolding millimetres
by_value nan s v j t = absurd t.known
by_value (inf u) s v j t = absurd t.known
by_value (fin u m e) s v j t =
    ap (signed u) (same_nearest (1000 * (m * up e)) (down e) (v * 2 ^ j) (2 ^ 1074) (down_pos e) (pow_pos 1074) t.same)
    ∙ ap (λ (b : Bool). signed b (nearest_whole (v * 2 ^ j) (2 ^ 1074))) t.sign

-- ---- the steps

no_nan_value : (y : Float) (s : Bool) (a c : ℕ) → HasValue y s a c → T (not (is_nan y))
unfolding is_nan
no_nan_value nan s a c h = h
no_nan_value (inf t) s a c h = tt
no_nan_value (fin t m e) s a c h = tt

-- n is x in millimetres without its sign s, and the sum's pattern holds it
pub record Counted (x : Float) (s : Bool) (n : ℕ) : Type 0 where
  pub product_known : T (not (is_nan (mul binary64 x thousand)))
  pub rounds : Rounds (mul binary64 x thousand) s n
  pub few : n ≤ 2 ^ 51
  pub is : signed s n ≡ millimetres x

pub counted : (x : Float) → T (fits binary32 x) → InReach x → (s : Bool) × (n : ℕ) × Counted x s n
counted x f h =
    let p = thousandfold x f h in
    let s = p.0 in
    let v = p.1 in
    let j = p.2 in
    let t = p.3 in
    let small = product_small x s v j h t in (
      s,
      nearest_whole (v * 2 ^ j) (2 ^ 1074),
      record {
        product_known = no_nan_value (mul binary64 x thousand) s (v * 2 ^ j) (2 ^ 1074) t.exact;
        rounds = rounds (mul binary64 x thousand) s v j (mul-fits binary64 x thousand) t.exact t.few t.up small;
        few = le_trans (nearest_most (v * 2 ^ j) (2 ^ 1074) (2 ^ 50) (pow_pos 1074) (le_of_lt small)) (lit≤ tt);
        is = sym (by_value x s v j t);
      },
    )
