-- How one record ends, told from what `map_err` makes of it. Assumes nothing.
use Rattle.std.specs.Prelude.{ℕ, ◌≡◌, true, false, is_ok, Result, Ok, Err, MatchResult}
use Rattle.refusal.specs.declared.Refusal.{Refusal}
use Rattle.refusal.specs.declared.Refused.{Refused}

pub ends : (t : Result ℕ Refusal) (i : ℕ) → MatchResult t (λ x. ◌≡◌ {A = Result ℕ Refused} (Ok i) (Ok x)) (λ e. ⊥) → Ok i ≡ t
ends (Ok x) i h = cc
ends (Err e) i h = absurd h

pub fails : (P : ℕ → Type 0) (Q : Refusal → Type 0) (t : Result ℕ Refusal) → false ≡ is_ok t → MatchResult t P Q → (r : Refusal) × (Err r ≡ t) × Q r
fails P Q (Ok x) o h = let z : false ≡ true = o in cc
fails P Q (Err e) o h = (e, cc, h)
