-- The text of a scene, by what was summed up of it. Assumes nothing.
use mathlib.Core.Path.{◌≡◌, refl, sym, ap, ap₂, ◌∙◌, subst}
use mathlib.Core.Bool.{Bool, cond}
use mathlib.Core.List.{List, ◌++◌}
use Prim.Native.Nat.{ℕ, ◌+◌, ◌*◌, ◌≤◌, ◌<◌}
use native.Mathlib.Nat.{zero-add}
use native.Mathlib.Omega.{arith}
use lib.ListN.{length, take, drop, length-append}
use lib.Seq.{sets, sets-eq}
use borrow.Author.Tests.{lt-ltb, le-ltb}
use Rattle.lists.specs.Loops.{join, over}
use Rattle.lists.proofs.Buffers.{take_over}
use Rattle.float.specs.Number.{min_area}
use Rattle.object.specs.Object.{Object}
use Rattle.refusal.proofs.Numbers.{number_range}
use Rattle.scene.specs.Scene.{Scene, refused, accepted, scene}
use Rattle.scene.specs.Contract.Answers.{objects_of}
use Rattle.mesh.specs.Mesh.{Mesh, mesh_of}
use Rattle.mesh.specs.Operations.{refused_with, done, measure_scene, measure}
use Rattle.decimal.specs.Contract.Texts.{Wrote}
use Rattle.decimal.proofs.Texts.{then, wrote_as}
use Rattle.quote_text.specs.Contract.Room.{objects_most}
use Rattle.quote_text.proofs.Enough.{few_objects}
use Rattle.quote_lines.specs.Lines.{refused_line, counts_line, verdict_line}
use Rattle.quote_text.specs.Quote.{object_line, mesh_line, objects_text, scene_text, quote_text}
use Rattle.quote_objects.specs.Contract.Accounts.{Priced}
use Rattle.quote_summary.specs.declared.Summary.{Summary}
use Rattle.quote_summary.specs.Contract.Summaries.{SummedUp, Summed}

-- ---- refused or accepted, by Measure's number

refused_text : (t : Scene) (n : ℕ) → n ≡ (measure_scene min_area t).number → (n ≡ 0 → ⊥) → scene_text t ≡ refused_line n
unfolding measure_scene refused_with done scene_text
refused_text (refused r object) n h k = ap refused_line (sym h)
refused_text (accepted os) n h k = absurd (k h)

accepted_is : (t : Scene) (n : ℕ) → n ≡ (measure_scene min_area t).number → n ≡ 0 → t ≡ accepted (objects_of t)
unfolding measure_scene refused_with done
accepted_is (refused r object) n h k = absurd (omega (arith, (number_range r).0))
accepted_is (accepted os) n h k = refl

-- ---- the text, by the scene's length

pub long_text : (s : List ℕ) → 4096 < length s → quote_text s ≡ refused_line 1
unfolding quote_text
long_text s h = rw (lt-ltb 4096 (length s) h)

short_text : (s : List ℕ) → length s ≤ 4096 → quote_text s ≡ scene_text (scene s)
unfolding quote_text
short_text s h = rw (le-ltb 4096 (length s) h)

module _ {s : List ℕ} {m : Summary} {before account : List ℕ} (l : length s ≤ 4096) (u : Summed s m before account) where
  pub refused_quote : (m.refusal ≡ 0 → ⊥) → quote_text s ≡ refused_line m.refusal
  unfolding measure
  refused_quote h = short_text s l ∙ refused_text (scene s) m.refusal u.refusal h

  module _ (h : m.refusal ≡ 0) where
    pub accepted_scene : scene s ≡ accepted (objects_of (scene s))
    unfolding measure
    accepted_scene = accepted_is (scene s) m.refusal u.refusal h

    pub accepted_quote : quote_text s ≡ objects_text (objects_of (scene s))
    unfolding scene_text
    accepted_quote = short_text s l ∙ ap scene_text accepted_scene

-- ---- an accepted scene

module _ (s : List ℕ) {m : Summary} {account : List ℕ} (is : scene s ≡ accepted (objects_of (scene s))) (u : SummedUp (objects_of (scene s)) m account) where
  pub priced : Priced s account m.objects
  priced = record { is = is; count = u.objects; account = u.account }

  pub few : length s ≤ 4096 → m.objects ≤ 372
  unfolding objects_most
  few l = omega (arith, u.objects, few_objects s (objects_of (scene s)) 4096 is l)

  -- the lines one behind the other
  pub text_is : objects_text (objects_of (scene s)) ≡ join object_line (objects_of (scene s)) ++ counts_line m.vertices m.indices m.spans ++ verdict_line m.ok
  unfolding objects_text mesh_line
  text_is =
      let os = objects_of (scene s) in
      sym (λ i. join object_line os ++ counts_line (u.vertices i) (u.indices i) (u.spans i) ++ verdict_line (u.ok i))

-- ---- a text stored from the start of an array

pub stored : {old text bytes : List ℕ} {next most : ℕ} → length old ≡ most → next ≤ most → Wrote old 0 bytes text next → (next ≡ length bytes) × (text ≡ over bytes old) × (next ≤ most)
unfolding over
stored {old} {bytes = bytes} e h w =
    let n = w.place ∙ zero-add (length bytes) in
    (n, w.stored ∙ sets-eq bytes old 0 (omega arith) ∙ ap (λ (k : ℕ). bytes ++ drop k old) (zero-add (length bytes)), h)

-- ---- what a program writes: the first bytes of the array

module _ (bytes old : List ℕ) {text : List ℕ} {r : ℕ} (n : r ≡ length bytes) (e : text ≡ over bytes old) where
  -- they are the text
  pub printed : take r text ≡ bytes
  printed = rw (n, e) (take_over bytes old)

  pub within : r ≤ length text
  unfolding over
  within = omega (arith, ap length e, length-append bytes (drop (length bytes) old))

  pub counted : r ≡ length (take r text)
  counted = n ∙ sym (ap length printed)
