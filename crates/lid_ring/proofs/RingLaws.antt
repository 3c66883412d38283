-- Rings filled in place, and turned. Assumes nothing.
use mathlib.Core.Path.{◌≡◌, refl, sym, ap, ◌∙◌}
use mathlib.Core.Bool.{Bool, true, false, ◌||◌, beq, cond}
use mathlib.Core.List.{List, [], ◌∷◌, ◌++◌, reverse}
use Prim.Native.Nat.{ℕ, zero, suc, ◌+◌, ◌<◌}
use native.Mathlib.Nat.{add-zero}
use native.Mathlib.Numerals.{add-one}
use native.Mathlib.Omega.{arith}
use lib.ListN.{length, take, set}
use lib.Seq.{take-suc-set}
use lib.Dec.{ltb}
use lib.Ieee.{Float, lt}
use Rattle.lists.specs.Loops.{list}
use Rattle.float.specs.Number.{zerof, min_area}
use Rattle.float.specs.Signs.{magnitude}
use Rattle.lid.specs.declared.Flat.{Flat}
use Rattle.lid.specs.Rings.{area, too_small, turn_outer, turn_hole}
use Rattle.lid.specs.Contract.Steps.{turned}

-- the numbers from v on
abbrev pub up : ℕ → ℕ → List ℕ
up v n = list (λ i. i) n v

up_snoc : (v n : ℕ) → up v (suc n) ≡ up v n ++ ((v + n) ∷ [])
unfolding list
up_snoc v zero = ap (λ (k : ℕ). k ∷ []) (sym (add-zero v))
up_snoc v (suc n) = ap (λ (r : List ℕ). v ∷ r) (up_snoc (suc v) n ∙ ap (λ (k : ℕ). up (suc v) n ++ (k ∷ [])) (shift v n))
  where
    shift : (v n : ℕ) → suc v + n ≡ v + suc n
    shift v n = omega arith

-- one more place numbered
pub up_next : (l : List ℕ) (v k : ℕ) → k < length l → take k l ≡ up v k → take (k + 1) (set l k (v + k)) ≡ up v (k + 1)
up_next l v k h e = rw add-one (take-suc-set l k (v + k) h ∙ ap (λ (r : List ℕ). r ++ ((v + k) ∷ [])) e ∙ sym (up_snoc v k))

-- ---- a ring written and turned

pick : {A : Type 0} (outer b : Bool) (x y : A) → beq b outer ≡ true → x ≡ cond outer (cond b x y) (cond b y x)
pick true true x y h = refl
pick false false x y h = refl
pick true false x y h = cc
pick false true x y h = cc

leave : {A : Type 0} (outer b : Bool) (x y : A) → beq b outer ≡ false → y ≡ cond outer (cond b x y) (cond b y x)
leave true true x y h = cc
leave false false x y h = cc
leave true false x y h = refl
leave false true x y h = refl

module _ (fs : List Flat) (outer : Bool) (ring : List ℕ) where
  pub turned_back : beq (lt (area fs ring) zerof) outer ≡ true → reverse ring ≡ turned outer fs ring
  unfolding turn_outer turn_hole
  turned_back h = pick outer (lt (area fs ring) zerof) (reverse ring) ring h

  pub turned_not : beq (lt (area fs ring) zerof) outer ≡ false → ring ≡ turned outer fs ring
  unfolding turn_outer turn_hole
  turned_not h = leave outer (lt (area fs ring) zerof) (reverse ring) ring h

-- what `write_ring` answers and leaves, where it wrote `ring`, of area a and of absolute area b
module _ (fs : List Flat) (outer : Bool) (from n : ℕ) (ring : List ℕ) (a : Float) (wrote : ring ≡ up from n) (sized : a ≡ area fs ring) where
  pub ring_small : (b : Float) → b ≡ magnitude a → (ltb (length ring) 3 || lt b min_area) ≡ too_small fs (up from n)
  unfolding too_small
  ring_small b e = rw (e, sized, wrote)

  pub ring_back : beq (lt a zerof) outer ≡ true → reverse ring ≡ turned outer fs (up from n)
  ring_back h =
      let test : beq (lt (area fs (up from n)) zerof) outer ≡ true = rw (sized, wrote) at h in
      ap reverse wrote ∙ turned_back fs outer (up from n) test

  pub ring_kept : beq (lt a zerof) outer ≡ false → ring ≡ turned outer fs (up from n)
  ring_kept h =
      let test : beq (lt (area fs (up from n)) zerof) outer ≡ false = rw (sized, wrote) at h in
      wrote ∙ turned_not fs outer (up from n) test
