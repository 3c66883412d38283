-- What Build and Validate answer, with room enough: refusals 1 to 7 and no other, or all of the mesh and the account. Assumes nothing.
use mathlib.Core.Path.{◌≡◌, refl, sym, ap, ap₂, ◌∙◌, subst}
use mathlib.Core.List.{List, ◌++◌}
use Prim.Native.Nat.{ℕ, ◌*◌, ◌/◌, ◌≤◌}
use native.Mathlib.Nat.{le_trans}
use native.Mathlib.Omega.{arith}
use lib.ListN.{length, take, drop, replicate, length-replicate}
use lib.IntN.{pos}
use Rattle.lists.specs.Loops.{over}
use Rattle.lists.proofs.Buffers.{take_over}
use Rattle.float.specs.Number.{zerof, min_area}
use Rattle.object.specs.Object.{Object}
use Rattle.refusal.specs.declared.Refusal.{Refusal}
use Rattle.refusal.specs.Rows.{number_of}
use Rattle.scene.specs.Scene.{Scene, refused, accepted, scene}
use Rattle.validate.specs.Verdict.{Validation}
use Rattle.validate.specs.Validate.{validate, validate_at, verdict}
use Rattle.mesh.specs.Mesh.{Mesh, mesh_of, accounts_of, account_numbers}
use Rattle.mesh.specs.PerBuffer.{Counts, Buffers, lent}
use Rattle.mesh.specs.Operations.{Answer, Built, no_counts, refused_with, output, counts_of, done, measure_scene, measure, overlay, too_short, build_output, build_scene, build}
use Rattle.mesh.specs.Demand3.{LongEnough}
use Rattle.mesh.proofs.Rooms.{long_enough}
use Rattle.mesh.proofs.MeshSizes.{output_counts}
use Rattle.mesh_answer.specs.declared.Answer.{Answer as CAnswer}
use Rattle.mesh_answer.specs.Answers.{built_with, answer_from, BuiltAndJudged, judged, build_and_validate}
use Rattle.quote_text.specs.Contract.Room.{objects_most, room_for}
use Rattle.quote_text.proofs.Enough.{enough}
use Rattle.quote_lines.specs.Lines.{is_ok}
use Rattle.quote_text.specs.Quote.{validation}
use Rattle.quote_summary.specs.declared.Summary.{Summary}
use Rattle.quote_summary.specs.Contract.Summaries.{summary_of, refused_summary, SummedUp, Summed}

-- what Build leaves where no buffer is too short
abbrev whole : Scene → Buffers → Built
whole (refused r object) b = record { answer = refused_with r object; buffers = b }
whole (accepted os) b = record { answer = done (output min_area os); buffers = overlay (output min_area os) b }

built_whole : (t : Scene) (b : Buffers) → LongEnough (counts_of b) (measure_scene min_area t).counts → build_scene min_area t b ≡ whole t b
unfolding measure_scene build_scene build_output done
built_whole (refused r object) b l = refl
built_whole (accepted os) b l = ap (build_output (output min_area os) b) (long_enough (counts_of b) (counts_of (output min_area os)) l)

same_number : (t : Scene) (b : Buffers) → (whole t b).answer.number ≡ (measure_scene min_area t).number
unfolding measure_scene
same_number (refused r object) b = refl
same_number (accepted os) b = refl

-- the verdict on the mesh that is written, whatever the buffers held
same_validation : (os : List Object) (b : Buffers) → (judged (whole (accepted os) b)).validation ≡ validation (mesh_of min_area os)
unfolding judged overlay done counts_of output validation
same_validation os b = let w = output min_area os in ap₂ validate (take_over w.vertices b.vertices) (take_over w.indices b.indices)

-- ---- in the numbers that the program reads

-- no vertices and no triangles are judged where the scene is refused
numbers_back : (f : Refusal) (object : ℕ) (b : Buffers) → summary_of (refused_with f object) (judged (whole (refused f object) b)).validation ≡ refused_summary (number_of f)
unfolding judged refused_with no_counts validate validate_at verdict
numbers_back f object b = refl

numbers_up : (os : List Object) (b : Buffers) (m : Summary) → m ≡ summary_of (done (output min_area os)) (judged (whole (accepted os) b)).validation
    → SummedUp os m (overlay (output min_area os) b).account
unfolding done overlay over counts_of output mesh_of
numbers_up os b m e =
    let w = output min_area os in
    let n = sym (output_counts min_area os) in
    let a : (counts_of w).account ≡ 4 * length os = ap (λ (c : Counts). c.account) n in
    let v : (counts_of w).vertices ≡ 3 * length (mesh_of min_area os).vertices = ap (λ (c : Counts). c.vertices) n in
    let s : (counts_of w).spans ≡ 5 * length (mesh_of min_area os).spans = ap (λ (c : Counts). c.spans) n in
    record {
      objects = ap (λ (x : Summary). x.objects) e ∙ (omega arith);
      vertices = ap (λ (x : Summary). x.vertices) e ∙ (omega arith);
      indices = ap (λ (x : Summary). x.indices) e;
      spans = ap (λ (x : Summary). x.spans) e ∙ (omega arith);
      ok = ap (λ (x : Summary). x.ok) e ∙ ap is_ok (same_validation os b);
      account = record { rest = drop (length w.account) b.account; begins = refl };
    }

-- ---- behind the call

-- the working buffers, as they are made, are the room for 4,096 bytes
pub room_is : (account : List ℕ) → length account ≡ 1488
    → counts_of (lent (replicate 24576 zerof) (replicate 24576 zerof) (replicate 36864 0) (replicate 1860 0) account (replicate 32768 0) (replicate 24576 (pos 0))) ≡ room_for 4096
unfolding counts_of room_for objects_most
room_is account h = λ i. record {
  vertices = length-replicate 24576 zerof i;
  normals = length-replicate 24576 zerof i;
  indices = length-replicate {A = ℕ} 36864 0 i;
  spans = length-replicate {A = ℕ} 1860 0 i;
  account = h i;
  log = length-replicate {A = ℕ} 32768 0 i;
  millimetres = length-replicate 24576 (pos 0) i;
}

module _ (s : List ℕ) (b : Buffers) (l : length s ≤ 4096) (room : counts_of b ≡ room_for 4096) where
  is_whole : build s b ≡ whole (scene s) b
  unfolding build measure
  is_whole = built_whole (scene s) b (subst (λ (c : Counts). LongEnough c (measure_scene min_area (scene s)).counts) (sym room) (enough s 4096 l))

  module _ {r : Built} {v : Validation} (e : ◌≡◌ {A = BuiltAndJudged} (record { built = r; validation = v }) (build_and_validate s b)) where
    both : ◌≡◌ {A = BuiltAndJudged} (record { built = r; validation = v }) (judged (whole (scene s) b))
    unfolding build_and_validate
    both = e ∙ ap judged is_whole

    pub summed : {a : CAnswer} {m : Summary} → answer_from a ≡ r.answer → m ≡ summary_of (answer_from a) v → Summed s m b.account r.buffers.account
    unfolding judged measure
    summed {a} {m} p q =
        let built : r ≡ whole (scene s) b = ap (λ (x : BuiltAndJudged). x.built) both in
        let n : m ≡ summary_of r.answer v = q ∙ ap (λ (x : Answer). summary_of x v) p in
        record {
          refusal = ap (λ (x : Summary). x.refusal) n ∙ ap (λ (x : Built). x.answer.number) built ∙ same_number (scene s) b;
          up = λ os h.
              let w : r ≡ whole (accepted os) b = built ∙ ap (λ (t : Scene). whole t b) h in
              let x : v ≡ (judged (whole (accepted os) b)).validation = ap (λ (x : BuiltAndJudged). x.validation) both ∙ ap (λ (t : Scene). (judged (whole t b)).validation) h in
              subst (λ (x : Built). SummedUp os m x.buffers.account) (sym w)
              (numbers_up os b m (n ∙ ap₂ (λ (x : Built) (y : Validation). summary_of x.answer y) w x));
          back = λ f object h.
              let w : r ≡ whole (refused f object) b = built ∙ ap (λ (t : Scene). whole t b) h in
              let x : v ≡ (judged (whole (refused f object) b)).validation = ap (λ (x : BuiltAndJudged). x.validation) both ∙ ap (λ (t : Scene). (judged (whole t b)).validation) h in
              (n ∙ ap₂ (λ (x : Built) (y : Validation). summary_of x.answer y) w x ∙ numbers_back f object b, ap (λ (x : Built). x.buffers.account) w);
        }
