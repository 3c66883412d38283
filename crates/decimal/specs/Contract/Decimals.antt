-- Decimals with a sign, and how long decimals are.
use Rattle.std.specs.Prelude.{ℕ, zero, suc, ◌^◌, List, ◌∷◌, ℤ, pos, negsuc}
use Rattle.decimal.specs.Decimals.{decimal}

-- a number in decimal, with a minus sign in front where it is negative (negsuc n is -(n + 1))
unfoldable pub integer : ℤ → List ℕ
integer (pos n) = decimal n
integer (negsuc n) = 45 ∷ decimal (suc n)

-- the least number of k + 1 digits; 0 counts as a digit
abbrev pub ten_to : ℕ → ℕ
ten_to zero = 0
ten_to (suc k) = 10 ^ suc k
