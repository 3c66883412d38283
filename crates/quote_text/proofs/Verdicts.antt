-- The verdict on a built mesh is Ok exactly where a triangle was kept, and otherwise Empty: so `ok` and `empty` are all the words there are. Assumes nothing.
use mathlib.Core.Path.{◌≡◌, refl, ap, ◌∙◌}
use mathlib.Core.Bool.{Bool, true, false, cond}
use mathlib.Core.List.{List}
use Prim.Native.Nat.{ℕ}
use lib.Dec.{eqb}
use Rattle.lists.specs.Loops.{sum_of}
use Rattle.float.specs.Number.{min_area}
use Rattle.coords.proofs.Turned.{min_above}
use Rattle.object.specs.Object.{Object}
use Rattle.scene.specs.Scene.{scene, accepted}
use Rattle.scene.proofs.Accepted.{accepted_near}
use Rattle.std.specs.Prelude.{Ok, Err}
use Rattle.validate.specs.declared.MeshError.TheVariants.{Empty}
use Rattle.validate.specs.Validate.{validate}
use Rattle.mesh.specs.Mesh.{kept_by, mesh_of}
use Rattle.mesh.specs.Operations.{output}
use Rattle.mesh.proofs.Demand3.{written_holds}
use Rattle.quote_lines.specs.Words.{ascii}
use Rattle.quote_lines.specs.Lines.{is_ok, verdict_line}
use Rattle.quote_text.specs.Quote.{validation}

abbrev kept : List Object → ℕ
kept os = sum_of (λ (o : Object). kept_by min_area o.shape) os

pub verdict_words : (s : List ℕ) (os : List Object) → scene s ≡ accepted os → validation (mesh_of min_area os) ≡ Ok (cond (eqb (kept os) 0) (Err Empty) (Ok tt))
unfolding validation validate output
verdict_words s os h = (written_holds min_area min_above os (accepted_near s os h)).verdict

words : (b : Bool) → verdict_line (is_ok (Ok (cond b (Err Empty) (Ok tt)))) ≡ cond b (ascii "verdict empty\n") (ascii "verdict ok\n")
unfolding verdict_line
words true = refl
words false = refl

pub ok_where_kept : (s : List ℕ) (os : List Object) → scene s ≡ accepted os → verdict_line (is_ok (validation (mesh_of min_area os))) ≡ cond (eqb (kept os) 0) (ascii "verdict empty\n") (ascii "verdict ok\n")
ok_where_kept s os h = ap (λ v. verdict_line (is_ok v)) (verdict_words s os h) ∙ words (eqb (kept os) 0)
