-- The triangles' verdict, one triangle at a time. Assumes nothing.
use mathlib.Core.Path.{◌≡◌, refl, sym, ◌∙◌}
use Prim.Native.Nat.{ℕ, suc, ◌+◌, ◌<◌, min}
use native.Mathlib.Numerals.{add-one}
use native.Mathlib.Omega.{arith}
use mathlib.Core.Bool.{Bool, true, false, cond, ◌||◌}
use mathlib.Core.List.{List, [], ◌∷◌, ◌++◌}
use lib.ListN.{get_or, length}
use lib.Dec.{leb, eqb}
use borrow.Author.Tests.{eq-eqb}
use lib.Ieee.{Float}
use Rattle.coords.specs.declared.Point.{Point}
use Rattle.coords.specs.Coords.{no_area, origin}
use Rattle.std.specs.Prelude.{Ok, Err}
use Rattle.validate.specs.declared.MeshError.TheVariants.{IndexOutOfRange, DegenerateTriangle}
use Rattle.validate.specs.Verdict.{Verdict}
use Rattle.validate.specs.Validate.{degenerate, triangles_from}
use Rattle.validate.specs.Contract.Validate.{verdict_on_triangle, or_later}

-- a triangle of one index, of two and of three, by its tests
one : (t n a : ℕ) (later : Verdict) (p : Bool) → cond p (Err (IndexOutOfRange t a n)) (Err (DegenerateTriangle t)) ≡ or_later (cond p (Err (IndexOutOfRange t a n)) (cond p (Err (IndexOutOfRange t a n)) (cond p (Err (IndexOutOfRange t a n)) (Err (DegenerateTriangle t))))) later
unfolding or_later
one t n a later true = refl
one t n a later false = refl

two : (t n a b : ℕ) (later : Verdict) (p q : Bool) → cond p (Err (IndexOutOfRange t a n)) (cond q (Err (IndexOutOfRange t b n)) (Err (DegenerateTriangle t))) ≡ or_later (cond p (Err (IndexOutOfRange t a n)) (cond q (Err (IndexOutOfRange t b n)) (cond q (Err (IndexOutOfRange t b n)) (Err (DegenerateTriangle t))))) later
unfolding or_later
two t n a b later true q = refl
two t n a b later false true = refl
two t n a b later false false = refl

three : (t n a b c : ℕ) (later : Verdict) (p q r d : Bool) → cond p (Err (IndexOutOfRange t a n)) (cond q (Err (IndexOutOfRange t b n)) (cond r (Err (IndexOutOfRange t c n)) (cond d (Err (DegenerateTriangle t)) later))) ≡ or_later (cond p (Err (IndexOutOfRange t a n)) (cond q (Err (IndexOutOfRange t b n)) (cond r (Err (IndexOutOfRange t c n)) (cond d (Err (DegenerateTriangle t)) (Ok tt))))) later
unfolding or_later
three t n a b c later true q r d = refl
three t n a b c later false true r d = refl
three t n a b c later false false true d = refl
three t n a b c later false false false true = refl
three t n a b c later false false false false = refl

module _ (limit : Float) (vs : List Point) where
  repeated : (a b : ℕ) → degenerate limit vs a b b ≡ true
  unfolding degenerate
  repeated a b = rw (eq-eqb b b refl) (second (eqb a b) (eqb a b) (no_area limit (get_or vs a origin) (get_or vs b origin) (get_or vs b origin)))
    where
      second : (x y z : Bool) → x || true || y || z ≡ true
      second true y z = refl
      second false y z = refl

  -- the triangle of a chunk, which is short only where less is left: an index that is missing counts as the one before it
  chunk : (t : ℕ) (w later : List ℕ) → length w ≡ min 3 (length (w ++ later)) → 0 < length (w ++ later) →
      let a = get_or w 0 0 in
      let b = get_or w 1 a in
      triangles_from limit vs t (w ++ later) ≡ or_later (verdict_on_triangle limit vs t a b (get_or w 2 b)) (triangles_from limit vs (suc t) later)
  unfolding triangles_from verdict_on_triangle
  chunk t [] [] e h = absurd (omega (arith, h))
  chunk t [] (x ∷ later) e h = absurd (omega (arith, e))
  chunk t (a ∷ []) [] e h = rw (repeated a a) (one t (length vs) a (Ok tt) (leb (length vs) a))
  chunk t (a ∷ []) (x ∷ later) e h = absurd (omega (arith, e))
  chunk t (a ∷ b ∷ []) [] e h = rw (repeated a b) (two t (length vs) a b (Ok tt) (leb (length vs) a) (leb (length vs) b))
  chunk t (a ∷ b ∷ []) (x ∷ later) e h = absurd (omega (arith, e))
  chunk t (a ∷ b ∷ c ∷ []) later e h = three t (length vs) a b c (triangles_from limit vs (suc t) later) (leb (length vs) a) (leb (length vs) b) (leb (length vs) c) (degenerate limit vs a b c)
  chunk t (a ∷ b ∷ c ∷ d ∷ w) later e h = absurd (omega (arith, e))

  pub turn : (t : ℕ) {k t' n a b c : ℕ} {all : List ℕ} (w later : List ℕ) {v whole : Verdict} → n ≡ 3 → all ≡ w ++ later → length w ≡ min n (length all) → 0 < length all → a ≡ get_or w 0 0 → b ≡ get_or w 1 a → c ≡ get_or w 2 b → v ≡ verdict_on_triangle limit vs k a b c → k ≡ t → t' ≡ t + 1 → triangles_from limit vs t all ≡ whole → or_later v (triangles_from limit vs t' later) ≡ whole
  turn t w later three' e s h p q r s' i t'' g = rw (t'', s', i, r, q, p, add-one t) (sym (chunk t w later (rw (e, three') at s) (rw e at h)) ∙ rw e at g)

  pub all_done : (t : ℕ) (all : List ℕ) → length all ≡ 0 → triangles_from limit vs t all ≡ Ok tt
  unfolding triangles_from
  all_done t [] h = refl
  all_done t (x ∷ xs) h = absurd (omega (arith, h))
