-- The sines and cosines of sixteen angles at once.
use Rattle.std.specs.Prelude.{ℕ, Float}
use Rattle.lists.specs.Loops.{list}
use Rattle.angle_circle.specs.declared.SinCos.{SinCos}
use Rattle.angle_circle.specs.Circle.{sine, cosine}

abbrev pub sin_cos : (ℕ → Float) → SinCos
sin_cos f = record { sin = list (λ k. sine (f k)) 16 0; cos = list (λ k. cosine (f k)) 16 0 }
