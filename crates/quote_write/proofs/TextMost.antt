-- The text of a scene's bytes has at most 25,743 bytes: 69 for each of 372 objects, 61 for the counts and 14 for the verdict. Assumes nothing.
use mathlib.Core.Path.{◌≡◌, refl, sym, ap, ◌∙◌, subst}
use mathlib.Core.Bool.{Bool, true, false, cond}
use mathlib.Core.List.{List, [], ◌∷◌, ◌++◌}
use Prim.Native.Nat.{ℕ, zero, suc, ◌+◌, ◌-◌, ◌*◌, ◌≤◌, ◌<◌, ◌^◌, zero-le}
use Prim.Native.String.{String}
use native.Mathlib.Nat.{sub-zero}
use native.Mathlib.Omega.{arith}
use lib.Dec.{ltb, lit<}
use lib.ListN.{length, get_or, drop, length-append, drop_of_length-le}
use borrow.Author.Tests.{ltb-false}
use Rattle.lists.specs.Each.{Each}
use Rattle.lists.specs.Loops.{join, sum_of}
use Rattle.lists.proofs.Lists.{each_get_d}
use Rattle.lists.proofs.Loops.{either_by}
use Rattle.float.specs.Number.{min_area}
use Rattle.object.specs.Object.{Object}
use Rattle.scene_field.specs.Fields.{u16_at, u32_at}
use Rattle.refusal.specs.declared.Refusal.{Refusal}
use Rattle.refusal.specs.Rows.{number_of}
use Rattle.refusal.proofs.Numbers.{number_range}
use Rattle.scene.specs.Scene.{Scene, refused, accepted, scene, trailer, count_at}
use Rattle.scene.specs.Contract.Headers.{header_at, object_of}
use Rattle.scene.proofs.Walk.{Walking, walk_object, walk_next, walk_inside, accepted_scene, trailer_inside}
use Rattle.shape.specs.Price.{offered}
use Rattle.shape.proofs.Prices.{offered_count}
use Rattle.mesh.specs.Mesh.{kept_by, thin_by, account_of, mesh_from, mesh_of}
use Rattle.mesh.proofs.Demand3.Accounts.{price_is_kept_and_thin}
use Rattle.mesh.proofs.MeshSizes.{mesh_indices}
use Rattle.decimal.specs.Decimals.{decimal}
use Rattle.quote_text.specs.Contract.Room.{objects_most}
use Rattle.mesh.proofs.Comes.{sized_here, scene_comes}
use Rattle.quote_text.proofs.Enough.{few_objects}
use Rattle.quote_lines.specs.Words.{ascii, field}
use Rattle.quote_lines.specs.Lines.{refused_line, account_line, counts_line, is_ok, verdict_line}
use Rattle.quote_lines.proofs.Writers.{ten_digits}
use Rattle.quote_text.specs.Quote.{object_line, mesh_line, validation, objects_text, scene_text, quote_text}

-- ---- lines of numbers that fit u32

field_most : (word : String) (n : ℕ) → n < 2 ^ 32 → length (field word n) ≤ length (ascii word) + 10
field_most word n h = omega (arith, length-append (ascii word) (decimal n), ten_digits n h)

refused_most : (n : ℕ) → n < 2 ^ 32 → length (refused_line n) ≤ 19
unfolding refused_line
refused_most n h = omega (arith, length-append (field "refused " n) (ascii "\n"), field_most "refused " n h)

account_most : (id a b c : ℕ) → id < 2 ^ 32 → a < 2 ^ 32 → b < 2 ^ 32 → c < 2 ^ 32 → length (account_line id a b c) ≤ 69
unfolding account_line
account_most id a b c h i j k =
    let x = field "object " id in
    let y = field " offered " a in
    let z = field " kept " b in
    let t = field " thin " c in
    omega (arith, length-append (x ++ y ++ z ++ t) (ascii "\n"), length-append (x ++ y ++ z) t, length-append (x ++ y) z, length-append x y, field_most "object " id h, field_most " offered " a i, field_most " kept " b j, field_most " thin " c k)

counts_most : (a b c : ℕ) → a < 2 ^ 32 → b < 2 ^ 32 → c < 2 ^ 32 → length (counts_line a b c) ≤ 61
unfolding counts_line
counts_most a b c i j k =
    let x = field "mesh " a in
    let y = field " vertices " b in
    let z = field " indices " c in
    omega (arith, length-append (x ++ y ++ z) (ascii " spans\n"), length-append (x ++ y) z, length-append x y, field_most "mesh " a i, field_most " vertices " b j, field_most " indices " c k)

verdict_most : (ok : Bool) → length (verdict_line ok) ≤ 14
unfolding verdict_line
verdict_most true = omega arith
verdict_most false = omega arith

-- ---- the objects

abbrev pub Bytes : List ℕ → Type 0
Bytes s = Each (λ b. b < 256) s

id_most : (s : List ℕ) (i : ℕ) → Bytes s → u32_at s i < 2 ^ 32
unfolding u32_at u16_at
id_most s i h =
    let b = each_get_d (λ b. b < 256) s 0 (lit< tt) h in
    omega (arith, b i, b (i + 1), b (i + 2), b (i + 2 + 1))

-- what an object's line is written of fits u32
pub record Short (o : Object) : Type 0 where
  pub id : o.id < 2 ^ 32
  pub offered : offered o.shape < 2 ^ 32

line_most : (o : Object) → Short o → length (object_line o) ≤ 69
unfolding object_line account_of
line_most o h =
    let sum = price_is_kept_and_thin min_area o.shape in
    let most = h.offered in
    account_most o.id (offered o.shape) (kept_by min_area o.shape) (thin_by min_area o.shape) h.id most (omega arith) (omega arith)

lines_most : (os : List Object) → Each Short os → length (join object_line os) ≤ 69 * length os
unfolding join
lines_most [] h = zero-le
lines_most (o ∷ os) h = omega (arith, length-append (object_line o) (join object_line os), line_most o h.0, lines_most os h.1)

module _ {s : List ℕ} {e n : ℕ} {os : List Object} (bytes : Bytes s) (all : length os ≡ n) (little : e ≤ 16777216) where
  short_here : {k i : ℕ} → Walking s e n os k i → k < n → Short (object_of s i (header_at s i))
  unfolding header_at
  short_here {i = i} w l =
      let z = (sized_here min_area all w l).triangles in
      let inside = walk_inside w l in
      record { id = id_most s (i + 1) bytes; offered = omega (arith, offered_count (object_of s i (header_at s i)).shape) }

  walk_short : (m k i : ℕ) → n - k ≡ m → Walking s e n os k i → Each Short (drop k os)
  walk_short zero k i h w = let past : length os ≤ k = omega arith in subst (Each Short) (sym (drop_of_length-le os past)) tt
  walk_short (suc m) k i h w =
      let l : k < n = omega arith in
      subst (Each Short) (sym (walk_object w l)) (short_here w l, walk_short m (k + 1) (i + (header_at s i).size) (omega arith) (walk_next w l))

-- ---- all of it

module _ (s : List ℕ) (bytes : Bytes s) (l : length s ≤ 4096) where
  accepted_most : (os : List Object) → scene s ≡ accepted os → length (objects_text os) ≤ 25743
  unfolding objects_text mesh_line mesh_of objects_most
  accepted_most os h =
      let a = accepted_scene s os h in
      let c = (scene_comes min_area s os h).1 in
      let m = mesh_from min_area 0 0 os in
      let few = few_objects s os 4096 h l in
      let lines = lines_most os (walk_short bytes a.size (omega (arith, trailer_inside s (count_at s))) (count_at s) 0 0 (sub-zero (count_at s)) a.begins) in
      let v = c.vertices 0 0 in
      let p = c.spans 0 0 in
      let k = c.kept in
      let x = counts_line (length m.vertices) (length m.indices) (length m.spans) in
      let y = verdict_line (is_ok (validation m)) in
      let counts = counts_most (length m.vertices) (length m.indices) (length m.spans) (omega arith) (omega (arith, mesh_indices min_area os 0 0)) (omega arith) in
      omega (arith, length-append (join object_line os ++ x) y, length-append (join object_line os) x, verdict_most (is_ok (validation m)))

  refusal_most : (r : Refusal) → length (refused_line (number_of r)) ≤ 19
  refusal_most r = refused_most (number_of r) (omega (arith, (number_range r).1))

  scene_most : length (scene_text (scene s)) ≤ 25743
  unfolding scene_text
  scene_most = by (scene s) refl
    where
      by : (t : Scene) → scene s ≡ t → length (scene_text t) ≤ 25743
      by (refused r object) h = omega (arith, refusal_most r)
      by (accepted os) h = accepted_most os h

pub text_most : (s : List ℕ) → Bytes s → length (quote_text s) ≤ 25743
unfolding quote_text
text_most s bytes =
    either_by (λ (t : List ℕ). length t ≤ 25743) (ltb 4096 (length s)) {x = refused_line 1} (λ t. omega (arith, refused_most 1 (lit< tt)))
    (λ f. scene_most s bytes (ltb-false 4096 (length s) f))
