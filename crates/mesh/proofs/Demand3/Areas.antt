-- Demand 3's conservation of exact area, of every object by its own entries of the log. Assumes nothing.
use mathlib.Core.Path.{◌≡◌, refl, sym, subst}
use mathlib.Core.Bool.{true, false}
use mathlib.Core.List.{List, [], ◌∷◌, map}
use lib.Dec.{T}
use lib.ListN.{length}
use lib.Seq.{take-append_seam, drop-append_seam}
use lib.Ieee.{Float, nan, inf, fin}
use lib.Ieee.Scale.{finite}
use Rattle.lists.specs.Each.{Each}
use Rattle.lists.specs.Loops.{join}
use Rattle.float.specs.Number.{is_finite}
use Rattle.object.specs.Object.{Shape, solid, outline, sweep, round_sweep, Object}
use Rattle.lid.specs.declared.Flat.{Flat}
use Rattle.shape.specs.Shapes.{flat_of, log_of, outline_lid}
use Rattle.mesh.specs.Demand3.{FlatsKnown, AreasHold, AreasFollow}
use Rattle.mesh.specs.Mesh.{account_of, logs_of}
use Rattle.lists.proofs.Lists.{each_imp}
use Rattle.object.proofs.Near.{NearShape}
use Rattle.lid.proofs.Areas.Lid.{lid_conserves}
use Rattle.lid_plane.proofs.Flats.{NearF}
use Rattle.shape.proofs.Flats.{FlatShape, flat_shape}

known : (x : Float) → T (finite x) → is_finite x ≡ true
unfolding is_finite
known nan t = absurd t
known (inf s) t = absurd t
known (fin s m e) t = refl

flats_known : (fs : List Flat) → Each NearF fs → FlatsKnown fs
flats_known fs n = each_imp NearF (λ (f : Flat). (is_finite f.x ≡ true) × (is_finite f.y ≡ true)) (λ f n. (known f.x n.x.known, known f.y n.y.known)) fs n

pub areas_hold : (s : Shape) → FlatShape s → AreasHold s (log_of s)
unfolding outline_lid log_of
areas_hold (solid p t x) n = tt
areas_hold (outline false cs holes) n = tt
areas_hold (outline true cs holes) n = λ h. (flats_known (flat_of cs holes) n, lid_conserves (flat_of cs holes) (length cs) (map length holes) h)
areas_hold (sweep ss) n = tt
areas_hold (round_sweep ss) n = tt

-- the field `areas` of `Demand3Of`
pub areas_follow : (limit : Float) (os : List Object) → Each (λ (o : Object). NearShape o.shape) os → AreasFollow os (map (account_of limit) os) (logs_of os)
unfolding logs_of join account_of
areas_follow limit [] n = refl
areas_follow limit (o ∷ os) n =
    let mine = log_of o.shape in
    let later = join (λ (o : Object). log_of o.shape) os in (
      subst (AreasHold o.shape) (sym (take-append_seam mine later)) (areas_hold o.shape (flat_shape o n.0)),
      subst (AreasFollow os (map (account_of limit) os)) (sym (drop-append_seam mine later)) (areas_follow limit os n.1),
    )
