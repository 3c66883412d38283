-- The tables of the cosines and sines of sixteen angles, read at a place. Assumes nothing.
use mathlib.Core.Path.{◌≡◌, ap, ◌∙◌}
use mathlib.Core.List.{List}
use Prim.Native.Nat.{ℕ, ◌<◌}
use native.Mathlib.Nat.{zero-add}
use lib.ListN.{get_or}
use lib.Ieee.{Float, nan}
use Rattle.lists.specs.Loops.{list}
use Rattle.lists.proofs.Lists.{get_d_list}
use Rattle.angle_circle.specs.declared.SinCos.{SinCos}
use Rattle.angle_circle.specs.Circle.{sine, cosine}
use Rattle.angle_circle.specs.Contract.Circle.{sin_cos}

abbrev pub Tables : (ℕ → Float) → List Float → List Float → Type 0
Tables angle cos sin = (cos ≡ list (λ k. cosine (angle k)) 16 0) × (sin ≡ list (λ k. sine (angle k)) 16 0)

pub tables : (angle : ℕ → Float) {r : SinCos} → r ≡ sin_cos angle → Tables angle r.cos r.sin
tables angle e = (ap (λ (x : SinCos). x.cos) e, ap (λ (x : SinCos). x.sin) e)

at : {table : List Float} (f : ℕ → Float) → table ≡ list f 16 0 → (k : ℕ) → k < 16 → get_or table k nan ≡ f k
at f e k h = ap (λ (l : List Float). get_or l k nan) e ∙ get_d_list f 16 0 k nan h ∙ ap f (zero-add k)

module _ (angle : ℕ → Float) {cos sin : List Float} (t : Tables angle cos sin) (k : ℕ) (h : k < 16) where
  pub cosine_at : get_or cos k nan ≡ cosine (angle k)
  cosine_at = at (λ k. cosine (angle k)) t.0 k h

  pub sine_at : get_or sin k nan ≡ sine (angle k)
  sine_at = at (λ k. sine (angle k)) t.1 k h
