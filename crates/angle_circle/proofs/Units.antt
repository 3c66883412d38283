-- The sines and cosines of the ring points are at most 1 in size: tested one by one. Assumes nothing.
use mathlib.Core.Path.{sym, subst}
use Prim.Native.Nat.{ℕ, ◌<◌, zero-le}
use native.Mathlib.Nat.{zero-add}
use mathlib.Core.Bool.{Bool, ◌&&◌}
use lib.Dec.{T}
use lib.Ieee.Fits.{and_l, and_r}
use Rattle.lists.specs.Loops.{every, list}
use Rattle.float.specs.Number.{allowed64}
use Rattle.angle_circle.specs.Circle.{angle, sine, cosine}
use Rattle.lists.proofs.Computes.{computes as lists-computes}
use Rattle.lists.proofs.Lists.{every_list}
use Rattle.float.proofs.Computes.{computes as float-computes}
use Rattle.float.proofs.Allowed.{allowed64_within}
use Rattle.float.proofs.Within.{Within}
use Rattle.angle_circle.proofs.Computes.{computes}

-- ---- the ring's sines and cosines are at most 1, one by one
unit_at : ℕ → Bool
unit_at k = allowed64 (sine (angle k)) && allowed64 (cosine (angle k))

ring_units : T (every unit_at (list (λ j. j) 16 0))
unfolding unit_at lists-computes float-computes computes
ring_units = tt

module _ (k : ℕ) (h : k < 16) where
  unit_here : T (unit_at k)
  unit_here = every_list unit_at (λ j. j) 16 0 k ring_units zero-le (subst (λ (n : ℕ). k < n) (sym (zero-add 16)) h)

  pub sine_within : Within 1 0 (sine (angle k))
  unfolding unit_at
  sine_within = allowed64_within (sine (angle k)) (and_l (allowed64 (sine (angle k))) (allowed64 (cosine (angle k))) unit_here)

  pub cosine_within : Within 1 0 (cosine (angle k))
  unfolding unit_at
  cosine_within = allowed64_within (cosine (angle k)) (and_r (allowed64 (sine (angle k))) (allowed64 (cosine (angle k))) unit_here)
