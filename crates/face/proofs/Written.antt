-- What faces write, one behind the other: how much, the positions that the indices name, and that they name vertices of the face. Assumes nothing.
use mathlib.Core.Path.{◌≡◌, refl, ◌∙◌, ap, ap₂}
use mathlib.Core.List.{List, [], ◌∷◌, ◌++◌, map}
use Prim.Native.Nat.{ℕ, ◌+◌, ◌*◌, ◌≤◌, ◌<◌}
use native.Mathlib.Nat.{add_assoc}
use native.Mathlib.Omega.{arith}
use lib.ListN.{length, get_or, length-append, get_or-append}
use lib.Seq.{get_or-append-add}
use lib.Ieee.{Float}
use Rattle.lists.specs.Each.{Each}
use Rattle.lists.specs.Loops.{join, sum_of}
use Rattle.coords.specs.declared.Point.{Point}
use Rattle.coords.specs.Coords.{origin}
use Rattle.face.specs.Faces.{Triangle, Face, nothing, behind, numbered, kept_of, write_kept, write_face, write_faces}
use Rattle.face.specs.Contract.Faces.{TriangleLow, FaceLow}
use Rattle.lists.proofs.Lists.{join_size, map-append, each_append, each_imp}
use Rattle.face.proofs.Corners.{kept_low}

-- ---- the points ps stand in the vertices vs from number `first` on

abbrev pub Stands : List Point → ℕ → List Point → Type 0
Stands vs first ps = (i : ℕ) → i < length ps → get_or vs (first + i) origin ≡ get_or ps i origin

pub stands_left : (vs : List Point) (first : ℕ) (ps qs : List Point) → Stands vs first (ps ++ qs) → Stands vs first ps
stands_left vs first ps qs h i b = h i (let l = length-append ps qs in omega arith) ∙ get_or-append ps qs origin i b

pub stands_right : (vs : List Point) (first : ℕ) (ps qs : List Point) → Stands vs first (ps ++ qs) → Stands vs (first + length ps) qs
stands_right vs first ps qs h i b =
    ap (λ (n : ℕ). get_or vs n origin) (add_assoc first (length ps) i) ∙ h (length ps + i) (let l = length-append ps qs in omega arith) ∙ get_or-append-add ps qs i origin

-- ---- one face

-- the corner positions of a triangle
abbrev places : List Point → Triangle → List Point
places ps t = get_or ps t.a origin ∷ get_or ps t.b origin ∷ get_or ps t.c origin ∷ []

pub numbered_size : (first : ℕ) (ts : List Triangle) → length (numbered first ts) ≡ 3 * length ts
unfolding numbered
numbered_size first ts = join_size _ 3 (λ t. refl) ts

numbered_places : (vs ps : List Point) (first : ℕ) → Stands vs first ps → (ts : List Triangle) → Each (TriangleLow (length ps)) ts
    → map (λ i. get_or vs i origin) (numbered first ts) ≡ join (places ps) ts
unfolding numbered join
numbered_places vs ps first h [] q = refl
numbered_places vs ps first h (t ∷ ts) q =
    λ i. h t.a q.0.0 i ∷ h t.b q.0.1 i ∷ h t.c q.0.2 i ∷ numbered_places vs ps first h ts q.1 i

-- an index names one of n vertices from number `first` on
abbrev pub Named : ℕ → ℕ → ℕ → Type 0
Named first n i = (first ≤ i) × (i < first + n)

numbered_named : (first n : ℕ) (ts : List Triangle) → Each (TriangleLow n) ts → Each (Named first n) (numbered first ts)
unfolding numbered join
numbered_named first n [] q = tt
numbered_named first n (t ∷ ts) q =
    let a = q.0.0 in
    let b = q.0.1 in
    let c = q.0.2 in
    ((omega arith, omega arith), ((omega arith, omega arith), ((omega arith, omega arith), numbered_named first n ts q.1)))

-- ---- faces one behind the other

module _ (limit : Float) where
  write_kept_size : (first : ℕ) (f : Face) (ts : List Triangle) → length (write_kept limit first f ts).indices ≡ 3 * length ts
  unfolding write_kept nothing
  write_kept_size first f [] = refl
  write_kept_size first f (t ∷ ts) = numbered_size first (t ∷ ts)

  pub write_size : (first : ℕ) (fs : List Face) → length (write_faces limit first fs).indices ≡ 3 * sum_of (λ f. length (kept_of limit f)) fs
  unfolding write_faces write_face behind nothing sum_of
  write_size first [] = refl
  write_size first (f ∷ fs) =
      let p = write_kept limit first f (kept_of limit f) in
      let next = first + length p.vertices in
      omega (arith, length-append p.indices (write_faces limit next fs).indices, write_kept_size first f (kept_of limit f), write_size next fs)

  -- nothing kept, nothing written
  write_kept_none : (first : ℕ) (f : Face) (ts : List Triangle) → length ts ≡ 0 → length (write_kept limit first f ts).vertices ≡ 0
  unfolding write_kept nothing
  write_kept_none first f [] h = refl
  write_kept_none first f (t ∷ ts) h = omega arith

  pub write_none : (first : ℕ) (fs : List Face) → sum_of (λ f. length (kept_of limit f)) fs ≡ 0 → length (write_faces limit first fs).vertices ≡ 0
  unfolding write_faces write_face behind nothing sum_of
  write_none first [] h = refl
  write_none first (f ∷ fs) h =
      let p = write_kept limit first f (kept_of limit f) in
      let next = first + length p.vertices in
      omega (arith, length-append p.vertices (write_faces limit next fs).vertices, write_kept_none first f (kept_of limit f) (omega arith), write_none next fs (omega arith))

  write_kept_places : (vs : List Point) (first : ℕ) (f : Face) (ts : List Triangle) → Each (TriangleLow (length f.points)) ts
      → Stands vs first (write_kept limit first f ts).vertices → map (λ i. get_or vs i origin) (write_kept limit first f ts).indices ≡ join (places f.points) ts
  unfolding write_kept nothing join
  write_kept_places vs first f [] q h = refl
  write_kept_places vs first f (t ∷ ts) q h = numbered_places vs f.points first h (t ∷ ts) q

  pub write_places : (vs : List Point) (first : ℕ) (fs : List Face) → Each FaceLow fs → Stands vs first (write_faces limit first fs).vertices
      → map (λ i. get_or vs i origin) (write_faces limit first fs).indices ≡ join (λ (f : Face). join (places f.points) (kept_of limit f)) fs
  unfolding write_faces write_face behind nothing join
  write_places vs first [] q h = refl
  write_places vs first (f ∷ fs) q h =
      let p = write_kept limit first f (kept_of limit f) in
      let next = first + length p.vertices in
      let r = write_faces limit next fs in
      map-append (λ i. get_or vs i origin) p.indices r.indices
      ∙ ap₂ ◌++◌ (write_kept_places vs first f (kept_of limit f) (kept_low limit f q.0) (stands_left vs first p.vertices r.vertices h))
      (write_places vs next fs q.1 (stands_right vs first p.vertices r.vertices h))

  write_kept_named : (first : ℕ) (f : Face) (ts : List Triangle) → Each (TriangleLow (length f.points)) ts
      → Each (Named first (length (write_kept limit first f ts).vertices)) (write_kept limit first f ts).indices
  unfolding write_kept nothing
  write_kept_named first f [] q = tt
  write_kept_named first f (t ∷ ts) q = numbered_named first (length f.points) (t ∷ ts) q

  pub write_named : (first : ℕ) (fs : List Face) → Each FaceLow fs → Each (Named first (length (write_faces limit first fs).vertices)) (write_faces limit first fs).indices
  unfolding write_faces write_face behind nothing
  write_named first [] q = tt
  write_named first (f ∷ fs) q =
      let p = write_kept limit first f (kept_of limit f) in
      let n = length p.vertices in
      let r = write_faces limit (first + n) fs in
      let m = length r.vertices in
      let whole = length (p.vertices ++ r.vertices) in
      let l : whole ≡ n + m = length-append p.vertices r.vertices in
      each_append (Named first whole) p.indices r.indices
      (each_imp (Named first n) (Named first whole) (λ i h. (h.0, omega arith)) p.indices (write_kept_named first f (kept_of limit f) (kept_low limit f q.0)))
      (each_imp (Named (first + n) m) (Named first whole) (λ i h. (omega arith, omega arith)) r.indices (write_named (first + n) fs q.1))
