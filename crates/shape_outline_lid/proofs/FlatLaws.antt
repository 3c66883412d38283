-- The lid of an outline from the corners laid flat. Assumes nothing.
use mathlib.Core.Path.{◌≡◌, refl, sym, ap, ap₂, subst, ◌∙◌}
use Prim.Native.Nat.{ℕ, zero, suc, ◌+◌, ◌-◌, ◌*◌, ◌<◌}
use native.Mathlib.Nat.{zero-add, add-zero}
use native.Mathlib.Omega.{arith}
use mathlib.Core.List.{List}
use lib.ListN.{length, take, drop, get_or, length-drop}
use lib.Seq.{ext_get_or, get_or-take, take_all}
use lib.Ieee.{Float}
use Rattle.lists.specs.Loops.{list}
use Rattle.lists.proofs.Lists.{length_list, get_d_list}
use Rattle.float.specs.Number.{zerof}
use Rattle.coords.specs.declared.Point.{Point}
use Rattle.coords_vector.specs.declared.Vector.{Vector}
use Rattle.coords_vector.specs.Vectors.{cross}
use Rattle.scene_field.specs.Fields.{point_at, corners_at, counts_at, holes_at}
use Rattle.scene.specs.Contract.Headers.{corner_count}
use Rattle.scene.proofs.Parts.{corners_length, holes_size, outline_corners_lem}
use Rattle.lid.specs.declared.Flat.{Flat}
use Rattle.lid_plane.specs.Plane.{tops_of, lid_normal, first_axis, flatten}
use Rattle.lid.specs.Rings.{flat0}
use Rattle.lid.specs.Contract.Rings.{flats}
use Rattle.lid.specs.Lid.{Lid, lid_of}
use Rattle.lid.specs.declared.LidCounts.{LidCounts}
use Rattle.lid.specs.Contract.Written.{WritesLid}
use Rattle.lid_plane.specs.Contract.Steps.{flat_on}
use Rattle.shape.specs.Shapes.{all_corners, flat_of, outline_lid}
use Rattle.shape_outline_corners.specs.declared.OutlineAt.{OutlineAt}
use Rattle.shape_outline_corners.specs.Contract.Outlines.{points_at, corners_place, lid_at, OutlineHolds}
use Rattle.shape_outline_corners.proofs.CornerLaws.{map_list, tops_points}

-- ---- corners laid flat

-- coordinates in two lists, the second from the front of one, are the flat corners
pub flats_list : (f : ℕ → Flat) (n : ℕ) (ys : List Float) → take n ys ≡ list (λ j. (f j).y) n 0 → flats (list (λ j. (f j).x) n 0) ys ≡ list f n 0
unfolding flats
flats_list f n ys e =
    ext_get_or flat0 (list pair (length xs) 0) (list f n 0) (length_list pair (length xs) 0 ∙ length_list (λ j. (f j).x) n 0 ∙ sym (length_list f n 0))
    (λ i h. same i (omega (arith, h, length_list pair (length xs) 0, length_list (λ j. (f j).x) n 0)))
  where
    xs : List Float
    xs = list (λ j. (f j).x) n 0

    pair : ℕ → Flat
    pair i = record { x = get_or xs i zerof; y = get_or ys i zerof }

    second : (i : ℕ) → i < n → get_or ys i zerof ≡ (f (0 + i)).y
    second i h = sym (get_or-take n ys i zerof h) ∙ ap (λ (l : List Float). get_or l i zerof) e ∙ get_d_list (λ j. (f j).y) n 0 i zerof h

    same : (i : ℕ) → i < n → get_or (list pair (length xs) 0) i flat0 ≡ get_or (list f n 0) i flat0
    same i h =
        get_d_list pair (length xs) 0 i flat0 (omega (arith, length_list (λ j. (f j).x) n 0))
        ∙ ap pair (zero-add i)
        ∙ (λ z. record { x = (get_d_list (λ j. (f j).x) n 0 i zerof h) z; y = (second i h) z })
        ∙ sym (get_d_list f n 0 i flat0 h)

-- point k at `at`, laid flat
abbrev pub flat_at : List ℕ → ℕ → Vector → ℕ → Flat
flat_at s at lid k = flat_on (point_at s at) (first_axis lid) (cross lid (first_axis lid)) (point_at s (at + 24 * k))

pub flatten_points : (s : List ℕ) (n at : ℕ) (lid : Vector) → list (flat_at s at lid) n 0 ≡ flatten lid (points_at s n at)
unfolding flatten points_at list
flatten_points s zero at lid = refl
flatten_points s (suc n) at lid =
    ap (λ (p : ℕ). list (λ k. flat_on (point_at s p) (first_axis lid) (cross lid (first_axis lid)) (point_at s (at + 24 * k))) (suc n) 0) (sym (add-zero at))
    ∙ sym (map_list (flat_on (point_at s (at + 24 * 0)) (first_axis lid) (cross lid (first_axis lid))) (λ k. point_at s (at + 24 * k)) (suc n) 0)

pub laid_flat : (s : List ℕ) (n at : ℕ) (lid : Vector) (e1 e2 : Vector) (xs ys : List Float) → e1 ≡ first_axis lid → e2 ≡ cross lid e1
    → xs ≡ list (λ j. (flat_on (point_at s at) e1 e2 (point_at s (at + 24 * j))).x) n 0 → take n ys ≡ list (λ j. (flat_on (point_at s at) e1 e2 (point_at s (at + 24 * j))).y) n 0
    → flats xs ys ≡ flatten lid (points_at s n at)
laid_flat s n at lid e1 e2 xs ys q r a b =
    ap (λ (l : List Float). flats l ys) a
    ∙ flats_list (λ j. flat_on (point_at s at) e1 e2 (point_at s (at + 24 * j))) n ys b
    ∙ ap (λ (x : Vector). list (λ j. flat_on (point_at s at) e1 x (point_at s (at + 24 * j))) n 0) r
    ∙ ap (λ (x : Vector). list (λ j. flat_on (point_at s at) x (cross lid x) (point_at s (at + 24 * j))) n 0) q
    ∙ flatten_points s n at lid

-- ---- the lid

-- all corners of an outline
pub all_corners_lem : (s : List ℕ) (i outer holes : ℕ) → all_corners (corners_at s outer (corners_place i holes)) (holes_at s (counts_at s holes (i + 4)) (corners_place i holes + 24 * outer)) ≡ corners_at s (corner_count s i outer holes) (corners_place i holes)
unfolding all_corners
all_corners_lem s i outer holes = outline_corners_lem s outer (counts_at s holes (i + 4)) (corners_place i holes)

pub lid_at_lem : (s : List ℕ) (i outer holes : ℕ)
    → lid_of (flatten (lid_normal (corners_at s outer (corners_place i holes))) (points_at s (corner_count s i outer holes) (corners_place i holes + 12))) outer (counts_at s holes (i + 4)) ≡ lid_at s i outer holes
unfolding outline_lid flat_of
lid_at_lem s i outer holes =
    let at = corners_place i holes in
    let counts = counts_at s holes (i + 4) in
    let lid = lid_normal (corners_at s outer at) in
    let n = corner_count s i outer holes in
    ap (λ (ps : List Point). lid_of (flatten lid ps) outer counts) (sym (tops_points s n at) ∙ ap tops_of (sym (all_corners_lem s i outer holes)))
    ∙ ap (λ (c : ℕ). lid_of (flatten lid (tops_of (all_corners (corners_at s outer at) (holes_at s counts (at + 24 * outer))))) c counts) (sym (corners_length s outer at))
    ∙ ap (lid_of (flatten lid (tops_of (all_corners (corners_at s outer at) (holes_at s counts (at + 24 * outer))))) (length (corners_at s outer at))) (sym (holes_size s counts (at + 24 * outer)))

pub cut_lid : (s : List ℕ) (o : OutlineAt) (fs : List Flat) (counts : List ℕ) → OutlineHolds s o
    → fs ≡ flatten o.lid (points_at s o.n (o.at + 12)) → counts ≡ counts_at s o.holes (o.i + 4) → lid_of fs o.outer counts ≡ lid_at s o.i o.outer o.holes
cut_lid s o fs counts m r e =
    ap₂ (λ (f : List Flat) (c : List ℕ). lid_of f o.outer c)
    (r
    ∙ ap₂ (λ (v : Vector) (k : ℕ). flatten v (points_at s k (o.at + 12))) m.normal m.placed.counted.total
    ∙ ap (λ (at : ℕ). flatten (lid_normal (corners_at s o.outer at)) (points_at s (corner_count s o.i o.outer o.holes) (at + 12))) m.place) e
    ∙ lid_at_lem s o.i o.outer o.holes

-- the lid is written where the cut of the corners laid flat is, in a working buffer that is lent from the second coordinates on
pub cut_written : {log log' ts ts' : List ℕ} {r : LidCounts} (s : List ℕ) (o : OutlineAt) (work : List Float) (w : ℕ) (counts : List ℕ) → OutlineHolds s o
    → flats (take o.n work) (drop o.n work) ≡ flatten o.lid (points_at s o.n (o.at + 12)) → counts ≡ counts_at s o.holes (o.i + 4)
    → WritesLid (lid_of (flats (take o.n work) (take w (drop o.n work))) o.outer counts).log (lid_of (flats (take o.n work) (take w (drop o.n work))) o.outer counts).triangles log log' 0 ts ts' r → w ≡ length work - o.n
    → WritesLid (lid_at s o.i o.outer o.holes).log (lid_at s o.i o.outer o.holes).triangles log log' 0 ts ts' r
cut_written {log} {log'} {ts} {ts'} {r} s o work w counts m flat e written h =
    subst (λ (l : Lid). WritesLid l.log l.triangles log log' 0 ts ts' r)
    (cut_lid s o _ counts m (ap (flats (take o.n work)) (take_all w (drop o.n work) (simp length-drop (omega arith))) ∙ flat) e) written
