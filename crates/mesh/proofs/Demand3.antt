-- Demand 3: the statement of specs/Demand3.antt, whole. Assumes nothing.
pub mod Accounts
pub mod Areas
pub mod Records
pub mod Spans
pub mod Verdict
use mathlib.Core.Path.{◌≡◌, refl, sym, ◌∙◌, ap, subst, subst₂}
use mathlib.Core.List.{List}
use Prim.Native.Nat.{ℕ, ◌/◌}
use native.Mathlib.Omega.{arith}
use lib.ListN.{length}
use lib.Ieee.{Float}
use Rattle.lists.specs.Each.{Each, Pairwise}
use Rattle.float.specs.Number.{min_area}
use Rattle.coords.specs.declared.Point.{Point}
use Rattle.coords.specs.Buffers.{vertex_numbers}
use Rattle.object.specs.Object.{Object}
use Rattle.scene.specs.Scene.{Scene, accepted, scene}
use Rattle.lid.specs.Log.{Entry}
use Rattle.validate.specs.Validate.{validate_at, validate}
use Rattle.mesh.specs.Demand3.{AccountHolds, AreasFollow, SpansFollow, EndToEnd, LongEnough, prefixes, Demand3Of, Demand3}
use Rattle.mesh.specs.Mesh.{Span, Account, accounts_of, logs_of, mesh_of}
use Rattle.std.specs.Prelude.{Ok}
use Rattle.mesh.specs.PerBuffer.{Buffers}
use Rattle.mesh.specs.Operations.{counts_of, output, done, too_short, measure_scene, measure, build_output, build_scene, build, Room}
use Rattle.coords.proofs.Buffers.{vertices_size, vertices_back}
use Rattle.coords.proofs.Turned.{Above, min_above}
use Rattle.object.proofs.Near.{NearShape}
use Rattle.scene.proofs.Accepted.{accepted_near}
use Rattle.lid.proofs.Entries.{entries_back}
use Rattle.mesh.proofs.Demand3.Accounts.{accounts_hold}
use Rattle.mesh.proofs.Demand3.Areas.{areas_follow}
use Rattle.mesh.proofs.Demand3.Records.{prefixes_written, spans_back, accounts_back}
use Rattle.mesh.proofs.Demand3.Spans.{mesh_spans, mesh_ends}
use Rattle.mesh.proofs.Demand3.Verdict.{verdict_holds}
use Rattle.mesh.proofs.Rooms.{long_enough}

-- ---- of what is written for a list of objects

pub written_holds : (limit : Float) → Above limit → (os : List Object) → Each (λ (o : Object). NearShape o.shape) os
    → Demand3Of limit os (output limit os) (validate_at limit (output limit os).vertices (output limit os).indices)
unfolding output accounts_of
written_holds limit above os near =
    let m = mesh_of limit os in
    let thirds : length m.vertices ≡ length (vertex_numbers m.vertices) / 3 = omega (arith, vertices_size m.vertices) in
    let accounts = accounts_back (accounts_of limit os) in
    record {
      account = subst (Pairwise (AccountHolds limit) os) (sym accounts) (accounts_hold limit os);
      log = refl;
      spans = subst₂ (λ (vs : List Point) (ss : List Span). SpansFollow limit vs m.indices os ss) (sym (vertices_back m.vertices)) (sym (spans_back m.spans)) (mesh_spans limit os);
      end_to_end = subst₂ (λ (n : ℕ) (ss : List Span). EndToEnd n (length m.indices) 0 0 ss) thirds (sym (spans_back m.spans)) (mesh_ends limit os);
      validated = refl;
      verdict = verdict_holds limit above os near;
      areas = subst₂ (λ (accounts : List Account) (log : List Entry). AreasFollow os accounts log) (sym accounts) (sym (entries_back (logs_of os))) (areas_follow limit os near);
    }

-- ---- what Build leaves in the measured first numbers of long enough buffers is that, whatever they held

built : (written b : Buffers) (n : Room) → n ≡ Ok tt → prefixes (counts_of written) (build_output written b n).buffers ≡ written
unfolding build_output
built w b n h = ap (λ (k : Room). prefixes (counts_of w) (build_output w b k).buffers) h ∙ prefixes_written w b

scene_built : (limit : Float) (os : List Object) (b : Buffers) (s : Scene) → s ≡ accepted os → LongEnough (counts_of b) (measure_scene limit s).counts
    → prefixes (measure_scene limit s).counts (build_scene limit s b).buffers ≡ output limit os
unfolding measure_scene build_scene done
scene_built limit os b s e h =
    let w = output limit os in
    ap (λ (s : Scene). prefixes (measure_scene limit s).counts (build_scene limit s b).buffers) e
    ∙ built w b (too_short (counts_of b) (counts_of w)) (sym (ap (λ (s : Scene). too_short (counts_of b) (measure_scene limit s).counts) e) ∙ long_enough (counts_of b) (measure_scene limit s).counts h)

pub prefixes_output : (bytes : List ℕ) (os : List Object) (b : Buffers) → scene bytes ≡ accepted os → LongEnough (counts_of b) (measure bytes).counts
    → prefixes (measure bytes).counts (build bytes b).buffers ≡ output min_area os
unfolding measure build
prefixes_output bytes os b e h = scene_built min_area os b (scene bytes) e h

-- ---- demand 3

pub demand3 : Demand3
unfolding validate
demand3 bytes os b e h =
    subst (λ (mesh : Buffers). Demand3Of min_area os mesh (validate mesh.vertices mesh.indices)) (sym (prefixes_output bytes os b e h))
    (written_holds min_area min_above os (accepted_near bytes os e))
