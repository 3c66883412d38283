-- Document 01, section 3: the sines and cosines of the sixteen ring points and of the sixteen side directions.
use Rattle.std.specs.Prelude.{ℕ, zero, suc, ◌+◌, ◌-◌, ◌*◌, ◌^◌, true, false, cond, pos, ltb, Float}
use Rattle.std.specs.Float.{nan, inf, fin, binary32}
use Rattle.std.specs.Float.Ieee.{of_int, round, up, down}
use Rattle.float.specs.Number.{◌+f◌, ◌*f◌, ◌/f◌, tau, sixteenf, twof}

-- k × TAU / 16: the product is rounded, then the quotient
unfoldable pub angle : ℕ → Float
angle k = of_int binary32 (pos k) *f tau /f sixteenf

-- the direction of side k, between ring point k and the next
unfoldable pub side_angle : ℕ → Float
side_angle k = angle k +f angle 1 /f twof

-- n * (n - 1) * .. , d factors
unfoldable pub falling : ℕ → ℕ → ℕ
falling n zero = 1
falling n (suc d) = n * falling (n - 1) d

-- x ^ n / n! for x = p / q, over the denominator q ^ top * top!
unfoldable pub term : ℕ → ℕ → ℕ → ℕ → ℕ
term top p q n = p ^ n * q ^ (top - n) * falling top (top - n)

-- the terms n, n + 4, .. : c of them, added up
unfoldable pub terms : ℕ → ℕ → ℕ → ℕ → ℕ → ℕ
terms top p q zero n = 0
terms top p q (suc c) n = term top p q n + terms top p q c (n + 4)

-- the f32 nearest to (a - b) / d, and +0.0 for a difference of 0
unfoldable pub nearest_diff : ℕ → ℕ → ℕ → Float
nearest_diff a b d = cond (ltb a b) (round binary32 true (b - a) d) (round binary32 false (a - b) d)

-- x - x^3/3! + .. + x^41/41!, and 1 - x^2/2! + .. + x^40/40!, at an x of 0 or above
unfoldable pub sine : Float → Float
sine nan = nan
sine (inf s) = nan
sine (fin s m e) =
    let p = m * up e in
    let q = down e in
    nearest_diff (terms 41 p q 11 1) (terms 41 p q 10 3) (q ^ 41 * falling 41 41)

unfoldable pub cosine : Float → Float
cosine nan = nan
cosine (inf s) = nan
cosine (fin s m e) =
    let p = m * up e in
    let q = down e in
    nearest_diff (terms 40 p q 11 0) (terms 40 p q 10 2) (q ^ 40 * falling 40 40)
