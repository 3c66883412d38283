-- What the text is written from: the mesh's counts, whether the verdict is ok, and the account. Definitions only.
use Rattle.std.specs.Prelude.{◌≡◌, ℕ, ◌/◌, false, List, length}
use Rattle.float.specs.Number.{min_area}
use Rattle.object.specs.Object.{Object}
use Rattle.refusal.specs.declared.Refusal.{Refusal}
use Rattle.refusal.specs.Rows.{number_of}
use Rattle.scene.specs.Scene.{scene, refused, accepted}
use Rattle.validate.specs.Verdict.{Validation}
use Rattle.mesh.specs.Mesh.{mesh_of, span_width, account_width}
use Rattle.mesh.specs.Operations.{Answer, measure}
use Rattle.quote_lines.specs.Lines.{is_ok}
use Rattle.quote_text.specs.Quote.{validation}
use Rattle.quote_objects.specs.Contract.Accounts.{Accounts}
use Rattle.quote_summary.specs.declared.Summary.{Summary}

abbrev pub summary_of : Answer → Validation → Summary
summary_of a v =
    let c = a.counts in
    record { refusal = a.number; objects = c.account / account_width; vertices = c.vertices / 3; indices = c.indices; spans = c.spans / span_width; ok = is_ok v }

-- of the objects of an accepted scene
pub record SummedUp (os : List Object) (m : Summary) (numbers : List ℕ) : Type 0 where
  pub objects : m.objects ≡ length os
  pub vertices : m.vertices ≡ length (mesh_of min_area os).vertices
  pub indices : m.indices ≡ length (mesh_of min_area os).indices
  pub spans : m.spans ≡ length (mesh_of min_area os).spans
  pub ok : m.ok ≡ is_ok (validation (mesh_of min_area os))
  pub account : Accounts os numbers

-- of a refused scene: its number, and nothing else
abbrev pub refused_summary : ℕ → Summary
refused_summary number = record { refusal = number; objects = 0; vertices = 0; indices = 0; spans = 0; ok = false }

-- of any scene: a refused one leaves the account as it was before
pub record Summed (s : List ℕ) (m : Summary) (before numbers : List ℕ) : Type 0 where
  pub refusal : m.refusal ≡ (measure s).number
  pub up : (os : List Object) → scene s ≡ accepted os → SummedUp os m numbers
  pub back : (f : Refusal) (object : ℕ) → scene s ≡ refused f object → (m ≡ refused_summary (number_of f)) × (numbers ≡ before)
