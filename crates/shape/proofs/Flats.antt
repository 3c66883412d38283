-- The flat corners of an outline's lid are numbers, within bounds: so that their exact areas say what they should. Assumes nothing.
use Prim.Native.Nat.{ℕ, ◌+◌, ◌≤◌}
use native.Mathlib.Omega.{arith}
use mathlib.Core.List.{List, ◌++◌, map}
use lib.ListN.{length as size}
use Rattle.lists.specs.Loops.{join}
use Rattle.lists.specs.Each.{Each}
use Rattle.object.specs.declared.Corner.{Corner}
use Rattle.object.specs.Limits.{most_corners}
use Rattle.object.specs.Object.{Shape, solid, outline, sweep, round_sweep, Object}
use Rattle.lid_plane.specs.Plane.{tops_of, lid_normal}
use Rattle.shape.specs.Shapes.{all_corners, flat_of}
use Rattle.lists.proofs.Lists.{each_append, each_map, each_join}
use Rattle.coords.proofs.Near.{NearP}
use Rattle.object.proofs.Near.{NearC, NearShape}
use Rattle.lid_plane.proofs.Flats.{NearF, lid_near, flatten_near}

pub flats_near : (cs : List Corner) (holes : List (List Corner)) → Each (NearC 1 24) cs → Each (Each (NearC 1 24)) holes → size cs ≤ most_corners → Each NearF (flat_of cs holes)
unfolding flat_of all_corners tops_of
flats_near cs holes n m h =
    let all = cs ++ join (λ h. h) holes in
    let k = each_append (NearC 1 24) cs (join (λ h. h) holes) n (each_join (Each (NearC 1 24)) (NearC 1 24) (λ h. h) (λ h k. k) holes m) in
    flatten_near (lid_normal cs) (map (λ (c : Corner). c.top) all) (lid_near cs n h) (each_map (NearC 1 24) (NearP 1 24) (λ (c : Corner). c.top) (λ c m. m.top) all k)

-- of every shape
abbrev pub FlatShape : Shape → Type 0
FlatShape (solid o t x) = Unit {0}
FlatShape (outline closed cs holes) = Each NearF (flat_of cs holes)
FlatShape (sweep ss) = Unit {0}
FlatShape (round_sweep ss) = Unit {0}

pub flat_shape : (o : Object) → NearShape o.shape → FlatShape o.shape
flat_shape o n = go o.shape n
  where
    few : (a b : ℕ) → a + b ≤ most_corners → a ≤ most_corners
    few a b h = omega arith

    go : (s : Shape) → NearShape s → FlatShape s
    go (solid o t x) n = tt
    go (outline closed cs holes) n = flats_near cs holes n.0 n.1 (few (size cs) _ n.2)
    go (sweep ss) n = tt
    go (round_sweep ss) n = tt
