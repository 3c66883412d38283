-- The flat corners of a lid, and the turns on them, are numbers: within bounds, for an outline within a scene's limits. Assumes nothing.
use mathlib.Core.Path.{◌≡◌, sym, subst}
use Prim.Native.Nat.{ℕ, zero, suc, ◌+◌, ◌*◌, ◌^◌, ◌≤◌}
use native.Mathlib.Nat.{le_trans, le_of_eq, lt_of_le_of_lt, mul-le-mul, mul-le-mul_right, add-zero, zero-add}
use native.Mathlib.Omega.{arith}
use mathlib.Core.Bool.{Bool, true, false, cond}
use mathlib.Core.List.{List, [], ◌∷◌}
use lib.ListN.{get_or, length-map, length as size}
use lib.Dec.{T, le→leb, lit≤, lit<}
use lib.Pow.{pow_mono}
use lib.Ieee.{Float, nan, inf, fin, binary32, lt, of_bits}
use Rattle.lists.specs.Loops.{next, loop, fold}
use Rattle.lists.specs.Each.{Each}
use Rattle.float.specs.Number.{zerof, halff, min_area}
use Rattle.float.specs.Signs.{magnitude, signum}
use Rattle.coords.specs.declared.Point.{Point}
use Rattle.coords_vector.specs.declared.Vector.{Vector}
use Rattle.coords_vector.specs.Vectors.{zero_v, unit_x, unit_z, plus, less, scale, negate, dot, cross, normalize_or}
use Rattle.coords.specs.Coords.{origin, diff}
use Rattle.object.specs.declared.Corner.{Corner}
use Rattle.object.specs.Limits.{most_corners}
use Rattle.lid.specs.declared.Flat.{Flat}
use Rattle.lid_plane.specs.Plane.{tops_of, area_normal, rise_step, rise, lid_side, lid_normal, first_axis, flatten}
use Rattle.lid.specs.Rings.{flat0, corner, turn, turn_of}
use Rattle.lists.proofs.Lists.{each_map, each_get_d}
use Rattle.float.proofs.Within.{Within, covers, covers_of, sub_within, mul_within}
use Rattle.coords.proofs.Near.{NearP, NearV, near_v_up, plus_near, less_near, opposite_near, dot_within, cross_near, diff_near, scale_near, zero_near, unit_x_near, unit_z_near}
use Rattle.coords.proofs.Lengths.{unit_near}
use Rattle.object.proofs.Near.{NearC}

-- ---- sums of up to 2 ^ 16 terms, each at most 2 ^ j
one_more : (m j : ℕ) → suc m ≤ 65536 → j ≤ 100 → T (covers binary32 (m * 2 ^ j + 1 * 2 ^ j) (suc m) j)
one_more m j h k =
    covers_of binary32 (m * 2 ^ j + 1 * 2 ^ j) (suc m) j (omega arith) (lt_of_le_of_lt h (lit< tt))
    (lt_of_le_of_lt (mul-le-mul h (pow_mono k)) (lit< tt))

loop_near : (f : ℕ → Vector) (j : ℕ) → j ≤ 100 → ((i : ℕ) → NearV 1 j (f i)) → (n k m : ℕ) (s : Vector) → m + n ≤ 65536 → NearV m j s → NearV (m + n) j (loop (λ i sum. plus sum (f i)) n k s)
unfolding loop
loop_near f j J h zero k m s l w = subst (λ (z : ℕ). NearV z j s) (sym (add-zero m)) w
loop_near f j J h (suc n) k m s l w =
    subst (λ (z : ℕ). NearV z j (loop (λ i sum. plus sum (f i)) n (suc k) (plus s (f k)))) (shift m n) (loop_near f j J h n (suc k) (suc m) (plus s (f k)) (le_trans (le_of_eq (shift m n)) l) (plus_near (suc m) j w (h k) (one_more m j (first m n l) J)))
  where
    shift : (m n : ℕ) → suc m + n ≡ m + suc n
    shift m n = omega arith

    first : (m n : ℕ) → m + suc n ≤ 65536 → suc m ≤ 65536
    first m n l = omega arith

-- ---- the lid's normal
at_near : (ps : List Point) → Each (NearP 1 24) ps → (i : ℕ) → NearP 1 24 (get_or ps i origin)
unfolding of_bits
at_near ps n i = each_get_d (NearP 1 24) ps origin (record { x = record { known = tt; small = lit≤ tt }; y = record { known = tt; small = lit≤ tt }; z = record { known = tt; small = lit≤ tt } }) n i

up_to : {v : Vector} (n j r k : ℕ) → NearV n j v → n * 2 ^ j ≤ r * 2 ^ k → NearV r k v
up_to n j r k w l = near_v_up w (le→leb (n * 2 ^ j) (r * 2 ^ k) l)

area_near : (ps : List Point) → Each (NearP 1 24) ps → size ps ≤ most_corners → NearV 1 60 (area_normal ps)
unfolding area_normal
area_near ps n h =
    let p = get_or ps 0 origin in
    up_to (0 + size ps) 51 1 60
    (loop_near (λ i. cross (diff (get_or ps i origin) p) (diff (get_or ps (next (size ps) i) origin) p)) 51 (lit≤ tt)
    (λ i. cross_near 4 48 1 51 (diff_near 2 24 (at_near ps n i) (at_near ps n 0) tt) (diff_near 2 24 (at_near ps n (next (size ps) i)) (at_near ps n 0) tt) tt tt)
    (size ps) 0 0 zero_v (omega arith) (near_v_up zero_near tt))
    (le_trans (mul-le-mul_right (2 ^ 51) (le_trans (le_of_eq (zero-add (size ps))) h)) (lit≤ tt))

rise_near : (cs : List Corner) → Each (NearC 1 24) cs → (m : ℕ) (s : Vector) → m + size cs ≤ 65536 → NearV m 25 s → NearV (m + size cs) 25 (fold rise_step s cs)
unfolding fold
rise_near [] n m s l w = subst (λ (z : ℕ). NearV z 25 s) (sym (add-zero m)) w
rise_near (c ∷ cs) n m s l w =
    subst (λ (z : ℕ). NearV z 25 (fold rise_step (plus s (diff c.top c.base)) cs)) (shift m (size cs))
    (rise_near cs n.1 (suc m) (plus s (diff c.top c.base)) (le_trans (le_of_eq (shift m (size cs))) l) (plus_near (suc m) 25 w (diff_near 1 25 n.0.top n.0.base tt) (one_more m 25 (first m (size cs) l) (lit≤ tt))))
  where
    shift : (m n : ℕ) → suc m + n ≡ m + suc n
    shift m n = omega arith

    first : (m n : ℕ) → m + suc n ≤ 65536 → suc m ≤ 65536
    first m n l = omega arith

sign_within : {q j : ℕ} (x : Float) → Within q j x → Within 1 0 (signum x)
unfolding signum
sign_within nan w = absurd w.known
sign_within (inf s) w = absurd w.known
sign_within (fin s m e) w = record { known = tt; small = lit≤ tt }

side_near : {q j : ℕ} (n : Vector) (away : Float) → NearV 2 0 n → Within q j away → NearV 2 0 (lid_side n away)
unfolding lid_side
side_near n away m w = go (lt min_area (magnitude away)) (lt n.z zerof)
  where
    go : (a b : Bool) → NearV 2 0 (cond a (scale n (signum away)) (cond b (negate n) n))
    go true b = scale_near 2 0 m (sign_within away w) tt
    go false true = opposite_near m
    go false false = m

module _ (cs : List Corner) (n : Each (NearC 1 24) cs) (h : size cs ≤ most_corners) where
  tops_24 : Each (NearP 1 24) (tops_of cs)
  unfolding tops_of
  tops_24 = each_map (NearC 1 24) (NearP 1 24) (λ (c : Corner). c.top) (λ c m. m.top) cs n

  pub lid_near : NearV 2 0 (lid_normal cs)
  unfolding lid_normal rise tops_of
  lid_near =
      let u = unit_near (area_normal (tops_of cs)) unit_z (area_near (tops_of cs) tops_24 (le_trans (le_of_eq (length-map cs (λ (c : Corner). c.top))) h)) (near_v_up unit_z_near tt) in
      let r = up_to (0 + size cs) 25 1 34 (rise_near cs n 0 zero_v (omega arith) (near_v_up zero_near tt)) (le_trans (mul-le-mul_right (2 ^ 25) (le_trans (le_of_eq (zero-add (size cs))) h)) (lit≤ tt)) in
      side_near _ _ u (dot_within 2 34 6 34 u r tt tt tt)

-- ---- the flat corners
axis_near : (lid : Vector) → NearV 2 0 lid → NearV 2 0 (first_axis lid)
unfolding first_axis
axis_near lid n = go (lt halff (magnitude lid.z))
  where
    go : (b : Bool) → NearV 2 0 (normalize_or (less (cond b unit_x unit_z) (scale lid (dot (cond b unit_x unit_z) lid))) zero_v)
    go true = unit_near _ zero_v (near_v_up (less_near 13 0 unit_x_near (scale_near 12 0 n (dot_within 2 0 6 0 unit_x_near n tt tt tt) tt) tt) tt) (near_v_up zero_near tt)
    go false = unit_near _ zero_v (near_v_up (less_near 13 0 unit_z_near (scale_near 12 0 n (dot_within 2 0 6 0 unit_z_near n tt tt tt) tt) tt) tt) (near_v_up zero_near tt)

pub record NearF (f : Flat) : Type 0 where
  pub x : Within 48 24 f.x
  pub y : Within 48 24 f.y

pub flatten_near : (lid : Vector) (tops : List Point) → NearV 2 0 lid → Each (NearP 1 24) tops → Each NearF (flatten lid tops)
unfolding flatten
flatten_near lid tops n m =
    let e1 = axis_near lid n in
    let e2 = cross_near 4 0 8 0 n e1 tt tt in
    each_map (NearP 1 24) NearF _ (λ p k. record { x = dot_within 4 24 48 24 (diff_near 2 24 k (at_near tops m 0) tt) e1 tt tt tt; y = dot_within 16 24 48 24 (diff_near 2 24 k (at_near tops m 0) tt) e2 tt tt tt }) tops m

-- ---- turns, as the Rust rounds them
flat_at : (fs : List Flat) → Each NearF fs → (i : ℕ) → NearF (corner fs i)
unfolding corner of_bits
flat_at fs n i = each_get_d NearF fs flat0 (record { x = record { known = tt; small = lit≤ tt }; y = record { known = tt; small = lit≤ tt } }) n i

pub turn_within : (fs : List Flat) → Each NearF fs → (a b c : ℕ) → Within 18432 48 (turn_of fs a b c)
unfolding turn_of turn
turn_within fs n a b c =
    let p = flat_at fs n a in
    let q = flat_at fs n b in
    let r = flat_at fs n c in
    let f = binary32 in
    sub_within f 18432 48
    (mul_within f 9216 48 (sub_within f 96 24 q.x p.x tt) (sub_within f 96 24 r.y p.y tt) tt)
    (mul_within f 9216 48 (sub_within f 96 24 q.y p.y tt) (sub_within f 96 24 r.x p.x tt) tt) tt
