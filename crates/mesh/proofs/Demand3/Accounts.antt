-- Demand 3's account: the price list's number is the kept and the thin triangles together, of every shape and at every limit. Assumes nothing.
use mathlib.Core.Path.{◌≡◌, refl, sym, ◌∙◌}
use mathlib.Core.List.{List, [], ◌∷◌, map}
use Prim.Native.Nat.{◌+◌}
use lib.Ieee.{Float}
use Rattle.lists.specs.Each.{Pairwise}
use Rattle.object.specs.Object.{Shape, Object}
use Rattle.shape.specs.Price.{offered}
use Rattle.shape.specs.Shapes.{faces_of}
use Rattle.mesh.specs.Demand3.{AccountHolds}
use Rattle.mesh.specs.Mesh.{kept_by, thin_by, account_of}
use Rattle.face.proofs.Counts.{faces_account}
use Rattle.shape.proofs.Prices.{offered_count}

pub price_is_kept_and_thin : (limit : Float) (s : Shape) → offered s ≡ kept_by limit s + thin_by limit s
unfolding kept_by thin_by
price_is_kept_and_thin limit s = offered_count s ∙ sym (faces_account limit (faces_of s))

account_holds : (limit : Float) (o : Object) → AccountHolds limit o (account_of limit o)
unfolding account_of
account_holds limit o = record { priced = refl; kept = refl; thin = refl; sum = price_is_kept_and_thin limit o.shape; entries = refl }

-- the field `account` of `Demand3Of`
pub accounts_hold : (limit : Float) (os : List Object) → Pairwise (AccountHolds limit) os (map (account_of limit) os)
accounts_hold limit [] = tt
accounts_hold limit (o ∷ os) = (account_holds limit o, accounts_hold limit os)
