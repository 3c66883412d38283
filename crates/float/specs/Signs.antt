-- Document 01, section 3: a float's sign, and what is told by it: `abs`, `signum`, `max`, `total_cmp`.
use Rattle.std.specs.Prelude.{Bool, false, not, ◌&&◌, ◌||◌, cond, pos, Float}
use Rattle.std.specs.Float.{nan, inf, fin}
use Rattle.std.specs.Float.Ieee.{is_nan, lt, eq}

-- whether the sign is set; a NaN has none
abbrev pub negative : Float → Bool
negative nan = false
negative (inf s) = s
negative (fin s m e) = s

-- the absolute value
unfoldable pub magnitude : Float → Float
magnitude nan = nan
magnitude (inf s) = inf false
magnitude (fin s m e) = fin false m e

-- 1 with the sign of x, a zero's sign too
unfoldable pub signum : Float → Float
signum nan = nan
signum (inf s) = fin s 1 (pos 0)
signum (fin s m e) = fin s 1 (pos 0)

-- The larger of two numbers, and the other where one is a NaN. Two that compare equal differ only where they are zeros of unlike signs, and then it is +0.
unfoldable pub larger : Float → Float → Float
larger x y = cond (is_nan x) y (cond (is_nan y) x (cond (lt x y) y (cond (lt y x) x (cond (negative x) y x))))

-- x comes before y in the order of the numbers, in which -0 stands below +0
unfoldable pub total_less : Float → Float → Bool
total_less x y = lt x y || (eq x y && (negative x && not (negative y)))
