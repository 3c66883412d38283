-- Document 01, section 3: rounding to a format of IEEE 754, for numbers that need not be fractions: the square root, and narrowing from binary64 to binary32.
-- The formats, `units` and `nearest` are those of the logic's account of IEEE 754 (lib.Ieee).
use Prim.Native.Nat.{ℕ, zero, suc, ◌+◌, ◌-◌, ◌*◌, ◌/◌, ◌^◌, compare, Ordering}
use Rattle.std.specs.Prelude.{Bool, false, cond, leb, Float}
use Rattle.std.specs.Float.{nan, inf, fin, Format}
use Rattle.std.specs.Float.Ieee.{prec, low, up, down, size, nearest, units, round}

-- ---- the whole square root

-- twice r, or one more where its square still is at most n
unfoldable pub root_step : ℕ → ℕ → ℕ
root_step n r = cond (leb ((2 * r + 1) * (2 * r + 1)) n) (2 * r + 1) (2 * r)

-- of an n below 4 ^ d: a binary digit of the root for each d
unfoldable pub root_in : ℕ → ℕ → ℕ
unfolding root_step
root_in zero n = 0
root_in (suc d) n = root_step n (root_in d (n / 4))

-- the largest number whose square is at most n. As n has `size n` binary digits, it is below 4 ^ (size n / 2 + 1).
unfoldable pub root : ℕ → ℕ
unfolding root_in size
root n = root_in (suc (size n / 2)) n

-- ---- rounding

-- The value of the format f that is nearest to a number x, with the sign s; of two that are as near, the even one.
-- x is in units of f's smallest value, and is told by its whole part w and by o, which compares the double of x with a whole number.
-- Of w the format keeps the `prec` leading digits, q, and drops k. So x lies from q to q + 1 times 2 ^ k, and is compared with the middle.
-- From 2 ^ (emax + 1) on the result is an infinity (`units`).
unfoldable pub rounded : Format → Bool → ℕ → (ℕ → Ordering) → Float
unfolding size units
rounded f s w o =
    let k = size w - prec f in
    let q = w / 2 ^ k in
    units f s (nearest q (o ((2 * q + 1) * 2 ^ k))) k

-- ---- the square root

-- The value of f nearest to the root of num / den. In units of f's smallest value, 2 ^ -low, the root's square is n / den.
-- The root's double is compared with c by the squares: 4 n / den with c * c.
unfoldable pub root_of : Format → ℕ → ℕ → Float
unfolding root rounded
root_of f num den =
    let n = num * 2 ^ (low f + low f) in
    rounded f false (root (n / den)) (λ c. compare (4 * n) (c * c * den))

-- IEEE 754's squareRoot: a zero is its own root, with its sign, and any other number below zero has none
unfoldable pub square_root : Format → Float → Float
unfolding root_of
square_root f nan = nan
square_root f (inf s) = cond s nan (inf false)
square_root f (fin s zero e) = fin s zero e
square_root f (fin s (suc m) e) = cond s nan (root_of f (suc m * up e) (down e))

-- ---- narrowing

-- IEEE 754's convertFormat: the value of f nearest to x
unfoldable pub convert : Format → Float → Float
unfolding round
convert f nan = nan
convert f (inf s) = inf s
convert f (fin s m e) = round f s (m * up e) (down e)
