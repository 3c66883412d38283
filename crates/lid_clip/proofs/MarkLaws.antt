-- An entry's mark by name, and by its number. Assumes nothing.
use mathlib.Core.Path.{◌≡◌, refl, sym, ◌∙◌}
use mathlib.Core.Bool.{Bool, true, false, cond}
use Prim.Native.Nat.{ℕ, ◌+◌, max}
use native.Mathlib.Omega.{arith}
use lib.Dec.{eqb, ltb}
use borrow.Author.Tests.{ltb-true, ltb-false}
use denote.Enum.Bare.{sameb}
use Rattle.lid.specs.declared.Mark.{Mark}
use Rattle.lid.specs.declared.Mark.TheVariants.{Ear, Dropped, Left, Joined, Apart, HoleTooSmall, LidTooSmall}
use Rattle.lid.specs.contracts.Mark.{the_type}
use Rattle.lid.specs.Marks.{mark_number}

-- the test of a mark by name tells of its number
pub marked_ear : (mark : Mark) (b r : Bool) → b ≡ sameb the_type mark Ear → b ≡ r → eqb (mark_number mark) 1 ≡ r
marked_ear Ear b r e t = sym e ∙ t
marked_ear Dropped b r e t = sym e ∙ t
marked_ear Left b r e t = sym e ∙ t
marked_ear Joined b r e t = sym e ∙ t
marked_ear Apart b r e t = sym e ∙ t
marked_ear HoleTooSmall b r e t = sym e ∙ t
marked_ear LidTooSmall b r e t = sym e ∙ t

-- the greater of two numbers, by a test
pub max_is : (known i : ℕ) → max known (i + 1) ≡ cond (ltb i known) known (i + 1)
max_is known i = go (ltb i known) refl
  where
    go : (b : Bool) → ltb i known ≡ b → max known (i + 1) ≡ cond b known (i + 1)
    go true t = let h = ltb-true i known t in omega arith
    go false t = let h = ltb-false i known t in omega arith
