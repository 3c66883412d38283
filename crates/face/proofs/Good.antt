-- What a face keeps is not thin, also where it is turned; so faces whose places are within bounds write good triangles, behind whatever stands before them. Assumes nothing.
use mathlib.Core.Path.{◌≡◌, refl, sym, ◌∙◌, subst}
use Prim.Native.Nat.{ℕ, ◌+◌, ◌*◌}
use native.Mathlib.Omega.{arith}
use mathlib.Core.Bool.{Bool, true, false, not, cond}
use mathlib.Core.List.{List, [], ◌∷◌, ◌++◌, append_assoc}
use lib.ListN.{get_or, length-append, length as size}
use lib.Dec.{T}
use lib.Ieee.{Float}
use Rattle.lists.specs.Loops.{join, sum_of}
use Rattle.lists.specs.Each.{Each}
use Rattle.coords.specs.declared.Point.{Point}
use Rattle.coords_vector.specs.declared.Vector.{Vector}
use Rattle.coords.specs.Coords.{origin, no_area}
use Rattle.face.specs.Faces.{Triangle, triangle, Face, normal, is_thin, is_turned, facing, kept_from, kept_of, nothing, behind, numbered, write_kept, write_face, write_faces}
use Rattle.face.specs.Contract.Faces.{TriangleLow, FaceLow}
use Rattle.lists.proofs.Lists.{each_append}
use Rattle.coords.proofs.Near.{NearP}
use Rattle.coords.proofs.Turned.{area_turned}
use Rattle.coords.proofs.Triangles.{GoodP, AllGoodP, good_append, good_longer, good_after}
use Rattle.face.proofs.Written.{numbered_size}

-- the places of a face are within 6 * 2 ^ 24
abbrev pub Sound : Face → Type 0
Sound f = Each (NearP 6 24) f.points

module _ (limit : Float) where
  -- ---- what a face keeps
  KeptGood : List Point → Triangle → Type 0
  KeptGood ps t = GoodP limit ps t.a t.b t.c

  facing_good : (ps : List Point) (out : Vector) (t : Triangle) → TriangleLow (size ps) t → is_thin limit ps t ≡ false → KeptGood ps (facing ps out t)
  unfolding KeptGood facing is_thin normal
  facing_good ps out t n e = go (is_turned ps out t)
    where
      wide : no_area limit (get_or ps t.a origin) (get_or ps t.b origin) (get_or ps t.c origin) ≡ false
      wide = unfold no_area in e

      go : (b : Bool) → KeptGood ps (cond b (triangle t.a t.c t.b) t)
      go true = record { fa = n.0; fb = n.2; fc = n.1; wide = subst (λ (b : Bool). T (not b)) (sym (area_turned limit (get_or ps t.a origin) (get_or ps t.c origin) (get_or ps t.b origin) ∙ wide)) tt }
      go false = record { fa = n.0; fb = n.1; fc = n.2; wide = subst (λ (b : Bool). T (not b)) (sym wide) tt }

  kept_good : (ps : List Point) (out : Vector) (ts : List Triangle) → Each (TriangleLow (size ps)) ts → Each (KeptGood ps) (kept_from limit ps out ts)
  unfolding kept_from
  kept_good ps out [] n = tt
  kept_good ps out (t ∷ ts) n = go (is_thin limit ps t) refl (kept_from limit ps out ts) (kept_good ps out ts n.1)
    where
      go : (b : Bool) → is_thin limit ps t ≡ b → (more : List Triangle) → Each (KeptGood ps) more → Each (KeptGood ps) (cond b more (facing ps out t ∷ more))
      go true e more g = g
      go false e more g = (facing_good ps out t n.0 e, g)

  -- ---- what is written behind other places
  -- the places are within bounds, the triangles good behind the places `before`, and n of them
  pub record Written (before vs : List Point) (is : List ℕ) (n : ℕ) : Type 0 where
    pub near : Each (NearP 6 24) vs
    pub good : AllGoodP limit (before ++ vs) is
    pub count : size is ≡ 3 * n

  numbered_good : (before ps : List Point) (ts : List Triangle) → Each (KeptGood ps) ts → AllGoodP limit (before ++ ps) (numbered (size before) ts)
  unfolding numbered join KeptGood
  numbered_good before ps [] g = tt
  numbered_good before ps (t ∷ ts) g = (good_after origin (no_area limit) before ps t.a t.b t.c g.0, numbered_good before ps ts g.1)

  write_kept_lem : (before : List Point) (f : Face) (ts : List Triangle) → Each (NearP 6 24) f.points → Each (KeptGood f.points) ts
      → Written before (write_kept limit (size before) f ts).vertices (write_kept limit (size before) f ts).indices (size ts)
  unfolding write_kept nothing
  write_kept_lem before f [] n g = record { near = tt; good = tt; count = refl }
  write_kept_lem before f (t ∷ ts) n g = record { near = n; good = numbered_good before f.points (t ∷ ts) g; count = numbered_size (size before) (t ∷ ts) }

  write_face_lem : (before : List Point) (f : Face) → Sound f → FaceLow f → Written before (write_face limit (size before) f).vertices (write_face limit (size before) f).indices (size (kept_of limit f))
  unfolding write_face kept_of
  write_face_lem before f s l = write_kept_lem before f (kept_from limit f.points f.out f.triangles) s (kept_good f.points f.out f.triangles l)

  -- one behind the other
  pub together : (before vs ws : List Point) (is js : List ℕ) (m n : ℕ) → Written before vs is m → Written (before ++ vs) ws js n → Written before (vs ++ ws) (is ++ js) (m + n)
  together before vs ws is js m n a b =
      record {
        near = each_append (NearP 6 24) vs ws a.near b.near;
        good = subst (λ (l : List Point). AllGoodP limit l (is ++ js)) (append_assoc before vs ws) (good_append origin (no_area limit) (before ++ vs ++ ws) is js (good_longer origin (no_area limit) (before ++ vs) ws is a.good) b.good);
        count = length-append is js ∙ omega (arith, a.count, b.count);
      }

  pub write_faces_lem : (before : List Point) (fs : List Face) → Each Sound fs → Each FaceLow fs
      → Written before (write_faces limit (size before) fs).vertices (write_faces limit (size before) fs).indices (sum_of (λ f. size (kept_of limit f)) fs)
  unfolding write_faces nothing behind sum_of
  write_faces_lem before [] s l = record { near = tt; good = tt; count = refl }
  write_faces_lem before (f ∷ fs) s l =
      let p = write_face limit (size before) f in
      together before p.vertices _ p.indices _ (size (kept_of limit f)) _ (write_face_lem before f s.0 l.0)
      (subst (λ (k : ℕ). Written (before ++ p.vertices) (write_faces limit k fs).vertices (write_faces limit k fs).indices (sum_of (λ f. size (kept_of limit f)) fs)) (length-append before p.vertices) (write_faces_lem (before ++ p.vertices) fs s.1 l.1))
