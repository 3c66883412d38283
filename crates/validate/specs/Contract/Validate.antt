-- The search for a faulty vertex from one on, and the verdict on one triangle.
use Rattle.std.specs.Prelude.{ℕ, ◌-◌, cond, List, length, leb, Float, Option, Ok, Err}
use Rattle.lists.specs.Loops.{first}
use Rattle.coords.specs.declared.Point.{Point}
use Rattle.validate.specs.Faults.{not_finite, degenerate}
use Rattle.validate.specs.declared.MeshError.TheVariants.{IndexOutOfRange, DegenerateTriangle}
use Rattle.validate.specs.Verdict.{Verdict}

-- the first vertex that is not finite from number k on
abbrev pub not_finite_from : List Point → ℕ → Option ℕ
not_finite_from vs k = first (not_finite vs) (length vs - k) k

-- the verdict on triangle t, of the vertices numbered a, b and c
unfoldable pub verdict_on_triangle : Float → List Point → ℕ → ℕ → ℕ → ℕ → Verdict
verdict_on_triangle limit vs t a b c =
    let n = length vs in
    cond (leb n a) (Err (IndexOutOfRange t a n))
    (cond (leb n b) (Err (IndexOutOfRange t b n))
    (cond (leb n c) (Err (IndexOutOfRange t c n))
    (cond (degenerate limit vs a b c) (Err (DegenerateTriangle t)) (Ok tt))))

-- a triangle's verdict, and that of the later ones where it is in order
unfoldable pub or_later : Verdict → Verdict → Verdict
or_later (Ok tt) later = later
or_later (Err e) later = Err e
