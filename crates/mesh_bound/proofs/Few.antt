-- Sums that fit the program's numbers. Assumes nothing.
use Prim.Native.Nat.{ℕ, ◌+◌, ◌≤◌}
use native.Mathlib.Nat.{le_trans}
use native.Mathlib.Omega.{arith}
use Rattle.mesh_bound.specs.declared.Most.{Most}
use Rattle.scene_field.specs.Layout.{most_bytes, most_objects}
use Rattle.mesh.specs.Contract.PerBuffer.{FitCounts}
use Rattle.mesh.proofs.Rooms.{numbers_fit}
use Rattle.mesh_bound.specs.Most.{together, numbers_of}
use Rattle.mesh_bound.specs.Contract.Groups.{Few, FewOfBoth}
use Rattle.mesh_bound.proofs.Bounds.{AtMost}

pub few_less : {a b : Most} {bytes n : ℕ} → AtMost a b → Few b bytes n → Few a bytes n
few_less l f =
    record { vertices = le_trans l.vertices f.vertices; triangles = le_trans l.triangles f.triangles; spans = le_trans l.spans f.spans; entries = le_trans l.entries f.entries }

pub few_among : {m : Most} {p q n k : ℕ} → Few m p n → p ≤ q → n ≤ k → Few m q k
few_among f i j =
    record {
      vertices = omega (arith, f.vertices);
      triangles = omega (arith, f.triangles);
      spans = omega (arith, f.spans);
      entries = omega (arith, f.entries);
    }

pub few_together : {a b : Most} {p q n k : ℕ} → Few a p n → Few b q k → Few (together a b) (p + q) (n + k)
few_together f g =
    record {
      vertices = omega (arith, f.vertices, g.vertices);
      triangles = omega (arith, f.triangles, g.triangles);
      spans = omega (arith, f.spans, g.spans);
      entries = omega (arith, f.entries, g.entries);
    }

pub few_all : {m : Most} → Few m most_bytes most_objects → FewOfBoth m
few_all f = few_among f (omega arith) (omega arith)

-- what n objects take in each buffer fits u32
pub few_fit : {m : Most} {n : ℕ} → FewOfBoth m → n ≤ most_objects → FitCounts (numbers_of m n)
few_fit f h =
    numbers_fit _ _ _ _ _ (omega (arith, f.vertices)) (omega (arith, f.triangles)) (omega (arith, f.spans)) (omega arith) (omega (arith, f.entries))
