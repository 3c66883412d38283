-- The triangles of a face offered one after the other: what they come to is what crates/face/specs/Faces.antt says of the whole list. Assumes nothing.
use mathlib.Core.Path.{◌≡◌, refl, sym, ap, ◌∙◌}
use Prim.Native.Nat.{ℕ, ◌+◌, ◌*◌}
use native.Mathlib.Nat.{add-zero}
use native.Mathlib.Omega.{arith}
use mathlib.Core.Bool.{Bool, true, false, cond}
use mathlib.Core.List.{List, [], ◌∷◌}
use lib.ListN.{length}
use lib.Seq.{sets}
use lib.Ieee.{Float}
use Rattle.lists.specs.Loops.{join, fold, count_of}
use Rattle.lists.proofs.Stores.{sets_append}
use Rattle.coords.specs.declared.Point.{Point}
use Rattle.coords_vector.specs.declared.Vector.{Vector}
use Rattle.face_judge.specs.declared.Side.{Side}
use Rattle.face_judge.specs.declared.Side.TheVariants.{Thin, Front, Back}
use Rattle.face_judge.specs.declared.Sum.{Sum}
use Rattle.face_triangle.specs.Triangles.{Triangle, triangle}
use Rattle.face.specs.Faces.{normal, is_thin, is_turned, facing, kept_from, add_normal, normal_from, numbered}
use Rattle.face_judge.specs.Contract.Offered.{side_of, side_in, indices_of, gathered, Offered, offered, offer_one}

abbrev sums : Vector → ℕ → ℕ → Sum
sums v kept thin = record { normal = v; kept = kept; thin = thin }

same : {v : Vector} {k k' t t' : ℕ} {is is' : List ℕ} → k ≡ k' → t ≡ t' → is ≡ is' → offered (sums v k t) is ≡ offered (sums v k' t') is'
same a b c = cc

-- three indices stored at place n + k, counted in threes, and more behind them
more_behind : (l : List ℕ) (n k : ℕ) (a b c : ℕ) (w : List ℕ) → sets (sets l (3 * (n + k)) (a ∷ b ∷ c ∷ [])) (3 * (n + (k + 1))) w ≡ sets l (3 * (n + k)) (a ∷ b ∷ c ∷ w)
more_behind l n k a b c w = ap (λ (i : ℕ). sets (sets l (3 * (n + k)) (a ∷ b ∷ c ∷ [])) i w) place ∙ sets_append l (3 * (n + k)) (a ∷ b ∷ c ∷ []) w
  where
    place : 3 * (n + (k + 1)) ≡ 3 * (n + k) + 3
    place = omega arith

-- a side by its two tests
side_by : Bool → Bool → Vector → Side
side_by thin turned n = cond thin Thin (cond turned (Back n) (Front n))

module _ (limit : Float) (ps : List Point) (out : Vector) (base n : ℕ) where
  -- what the triangles ts add to o
  unfoldable pub added : Offered → List Triangle → Offered
  added o ts =
      let kept = kept_from limit ps out ts in
      offered (sums (normal_from limit ps out o.sum.normal ts) (o.sum.kept + length kept) (o.sum.thin + count_of (is_thin limit ps) ts))
      (sets o.indices (3 * (n + o.sum.kept)) (numbered base kept))

  step : (thin turned : Bool) (v : Vector) (t : Triangle) (ts : List Triangle) (o : Offered)
      → added (offered (gathered (side_by thin turned v) o.sum) (sets o.indices (3 * (n + o.sum.kept)) (indices_of (side_by thin turned v) (base + t.a) (base + t.b) (base + t.c)))) ts
      ≡ offered (sums (normal_from limit ps out (add_normal thin turned o.sum.normal v) ts) (o.sum.kept + length (cond thin (kept_from limit ps out ts) (cond turned (triangle t.a t.c t.b) t ∷ kept_from limit ps out ts))) (o.sum.thin + (cond thin 1 0 + count_of (is_thin limit ps) ts)))
      (sets o.indices (3 * (n + o.sum.kept)) (numbered base (cond thin (kept_from limit ps out ts) (cond turned (triangle t.a t.c t.b) t ∷ kept_from limit ps out ts))))
  unfolding added gathered indices_of side_by add_normal numbered join
  step true turned v t ts o = same refl (omega arith) refl
  step false true v t ts o = same (omega arith) (omega arith) (more_behind o.indices n o.sum.kept (base + t.a) (base + t.c) (base + t.b) (numbered base (kept_from limit ps out ts)))
  step false false v t ts o = same (omega arith) (omega arith) (more_behind o.indices n o.sum.kept (base + t.a) (base + t.b) (base + t.c) (numbered base (kept_from limit ps out ts)))

  one : (t : Triangle) (ts : List Triangle) (o : Offered) → added (offer_one limit ps out base n o t) ts ≡ added o (t ∷ ts)
  unfolding added offer_one side_in side_of side_by normal_from kept_from count_of is_thin is_turned facing normal
  one t ts o = step (is_thin limit ps t) (is_turned ps out t) (normal ps t) t ts o

  pub offered_all : (ts : List Triangle) (o : Offered) → fold (offer_one limit ps out base n) o ts ≡ added o ts
  unfolding fold added normal_from kept_from count_of numbered join
  offered_all [] o = sym (same (add-zero o.sum.kept) (add-zero o.sum.thin) refl)
  offered_all (t ∷ ts) o = offered_all ts (offer_one limit ps out base n o t) ∙ one t ts o
