-- A vector's square is not below zero, so its length is below a limit exactly where the square is below the limit's `thin_bound`. Assumes nothing.
use Rattle.std.proofs.Common.{◌≡◌, false, T}
use lib.Ieee.{Float, binary32, lt, fits}
use lib.Ieee.Fits.{add-fits}
use Rattle.float.specs.Contract.Thin.{thin_bound}
use Rattle.float.specs.Number.{◌+f◌, ◌*f◌}
use Rattle.coords_vector.specs.declared.Vector.{Vector}
use Rattle.coords_vector.specs.Vectors.{dot, norm}
use Rattle.float.proofs.Squares.{square_plus, sum_plus, plus_low}
use Rattle.float.proofs.Thin.{thin, naught}

dot_low : (v : Vector) → lt (dot v v) naught ≡ false
unfolding dot
dot_low v =
    let xx = v.x *f v.x in
    let yy = v.y *f v.y in
    let zz = v.z *f v.z in
    plus_low (dot v v) (sum_plus binary32 (xx +f yy) zz (sum_plus binary32 xx yy (square_plus binary32 v.x) (square_plus binary32 v.y)) (square_plus binary32 v.z))

pub thin_norm : (v : Vector) (limit : Float) → T (fits binary32 limit) → lt (norm v) limit ≡ lt (dot v v) (thin_bound limit)
unfolding norm dot
thin_norm v limit t = thin (dot v v) limit (add-fits binary32 (v.x *f v.x +f v.y *f v.y) (v.z *f v.z)) t (dot_low v)
