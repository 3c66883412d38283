use Rattle.std.proofs.Common.{Bool, List, add-zero, arith, false, refl, true, ℕ, ◌&&◌, ◌+◌, ◌≡◌}
use Rattle.lists.specs.Loops.{every, list}
use Rattle.float.specs.Number.{allowed64}
use Rattle.scene_field.specs.Fields.{f64_at, all64}
use Rattle.scene_field.proofs.allowed.orientation_allowed.Goals as goal

paired : (a b c d e f : Bool) → ((a && b) && (c && d)) && (e && f) ≡ a && (b && (c && (d && (e && (f && true)))))
paired false b c d e f = refl
paired true false c d e f = refl
paired true true false d e f = refl
paired true true true false e f = refl
paired true true true true false f = refl
paired true true true true true false = refl
paired true true true true true true = refl

-- three pairs are the six numbers
three_pairs : (s : List ℕ) (i : ℕ)
    → ((allowed64 (f64_at s i) && allowed64 (f64_at s (i + 8))) && (allowed64 (f64_at s (i + 16)) && allowed64 (f64_at s (i + 16 + 8)))) && (allowed64 (f64_at s (i + 32)) && allowed64 (f64_at s (i + 32 + 8)))
    ≡ all64 s 6 i
unfolding all64 every list
three_pairs s i =
    let d : i + 16 + 8 ≡ i + 24 = omega arith in
    let f : i + 32 + 8 ≡ i + 40 = omega arith in
    rw (d, f, add-zero) (paired (allowed64 (f64_at s i)) (allowed64 (f64_at s (i + 8))) (allowed64 (f64_at s (i + 16))) (allowed64 (f64_at s (i + 24))) (allowed64 (f64_at s (i + 32))) (allowed64 (f64_at s (i + 40))))

pub returns : goal.returns
returns c = let a = c.args in
    rw (c.pair_allowed-3.ensures, c.pair_allowed-2.ensures, c.pair_allowed.ensures) (three_pairs a.s.now a.i)
