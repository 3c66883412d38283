-- The verdict on a mesh whose places are within bounds and whose triangles are all good: Ok, or Empty where there is none; at any limit above zero. Assumes nothing.
use mathlib.Core.Path.{◌≡◌, refl, ap, ◌∙◌, subst}
use Prim.Native.Nat.{ℕ, zero, suc, ◌<◌}
use native.Mathlib.Nat.{not-le_of_lt}
use mathlib.Core.Bool.{Bool, true, false, not, ◌&&◌, ◌||◌, cond}
use mathlib.Core.List.{List, [], ◌∷◌}
use lib.ListN.{get_or, length as size}
use lib.Dec.{T, leb, eqb, leb→le, eqb→eq, T_not}
use lib.Ieee.{Float, nan, inf, fin}
use lib.Ieee.Fits.{and_i}
use lib.Ieee.Scale.{finite}
use Rattle.std.specs.Prelude.{Option, None, Ok, Err}
use Rattle.lists.specs.Loops.{first}
use Rattle.lists.specs.Each.{Each}
use Rattle.float.specs.Number.{is_finite}
use Rattle.coords.specs.declared.Point.{Point}
use Rattle.coords.specs.Coords.{origin, no_area, finite_point}
use Rattle.validate.specs.declared.MeshError.TheVariants.{Empty}
use Rattle.validate.specs.Verdict.{Verdict}
use Rattle.validate.specs.Validate.{degenerate, triangles_from, not_finite, verdict_at, verdict}
use Rattle.lists.proofs.Lists.{each_get_d}
use Rattle.coords.proofs.Near.{NearP, origin_near}
use Rattle.coords.proofs.Turned.{Above, none_first, none_middle, none_last}
use Rattle.coords.proofs.Triangles.{GoodP, AllGoodP}

module _ (limit : Float) (above : Above limit) where
  cond_no : {A : Type 0} (b : Bool) (x y : A) → (T b → ⊥) → cond b x y ≡ y
  cond_no true x y h = absurd (h tt)
  cond_no false x y h = refl

  neither : (x y : Bool) → (T x → ⊥) → (T y → ⊥) → T (x || y) → ⊥
  neither true y h k t = h tt
  neither false y h k t = k t

  module _ (ps : List Point) (n : Each (NearP 6 24) ps) where
    place : (i : ℕ) → NearP 6 24 (get_or ps i origin)
    place i = each_get_d (NearP 6 24) ps origin origin_near n i

    -- a triangle that is not thin has three different numbers
    sound : (a b c : ℕ) → GoodP limit ps a b c → T (degenerate limit ps a b c) → ⊥
    unfolding degenerate
    sound a b c g =
        let p = get_or ps a origin in
        let q = get_or ps b origin in
        let r = get_or ps c origin in
        let no : T (no_area limit p q r) → ⊥ = T_not (no_area limit p q r) g.wide in
        neither (eqb a b || eqb b c || eqb a c) (no_area limit p q r)
        (neither (eqb a b || eqb b c) (eqb a c)
        (neither (eqb a b) (eqb b c)
        (λ t. no (subst (λ (i : ℕ). T (no_area limit p (get_or ps i origin) r)) (eqb→eq a b t) (none_first limit above p r (place a) (place c))))
        (λ t. no (subst (λ (i : ℕ). T (no_area limit p q (get_or ps i origin))) (eqb→eq b c t) (none_middle limit above p q (place a) (place b)))))
        (λ t. no (subst (λ (i : ℕ). T (no_area limit p q (get_or ps i origin))) (eqb→eq a c t) (none_last limit above p q (place a) (place b)))))
        no

    in_range : (a : ℕ) → a < size ps → T (leb (size ps) a) → ⊥
    in_range a h t = not-le_of_lt h (leb→le (size ps) a t)

    triangles_ok : (t : ℕ) (is : List ℕ) → AllGoodP limit ps is → triangles_from limit ps t is ≡ Ok tt
    unfolding triangles_from
    triangles_ok t [] g = refl
    triangles_ok t (a ∷ []) g = absurd g
    triangles_ok t (a ∷ b ∷ []) g = absurd g
    triangles_ok t (a ∷ b ∷ c ∷ is) g =
        cond_no (leb (size ps) a) _ _ (in_range a g.0.fa)
        ∙ cond_no (leb (size ps) b) _ _ (in_range b g.0.fb)
        ∙ cond_no (leb (size ps) c) _ _ (in_range c g.0.fc)
        ∙ cond_no (degenerate limit ps a b c) _ _ (sound a b c g.0)
        ∙ triangles_ok (suc t) is g.1

    finite_is : (x : Float) → T (finite x) → T (is_finite x)
    unfolding is_finite
    finite_is nan t = t
    finite_is (inf s) t = t
    finite_is (fin s m e) t = tt

    finite_place : (p : Point) → NearP 6 24 p → T (finite_point p)
    unfolding finite_point
    finite_place p m = and_i (is_finite p.x && is_finite p.y) (is_finite p.z) (and_i (is_finite p.x) (is_finite p.y) (finite_is p.x m.x.known) (finite_is p.y m.y.known)) (finite_is p.z m.z.known)

    not_not : (b : Bool) → T b → T (not b) → ⊥
    not_not true t u = u
    not_not false t u = t

    first_none : (m k : ℕ) → first (not_finite ps) m k ≡ None
    unfolding first
    first_none zero k = refl
    first_none (suc m) k = cond_no (not (finite_point (get_or ps k origin))) _ _ (not_not (finite_point (get_or ps k origin)) (finite_place (get_or ps k origin) (place k))) ∙ first_none m (suc k)

    pub verdict_good : (is : List ℕ) → AllGoodP limit ps is → verdict limit ps is ≡ cond (eqb (size is) 0) (Err Empty) (Ok tt)
    unfolding verdict verdict_at
    verdict_good is g =
        ap (λ (f : Option ℕ). cond (eqb (size is) 0) (Err Empty) (verdict_at f (triangles_from limit ps 0 is))) (first_none (size ps) 0)
        ∙ ap (λ (v : Verdict). cond (eqb (size is) 0) (Err Empty) v) (triangles_ok 0 is g)
