-- One object added by the program: the tails of the buffers lent to its builder, its span and its account; and that all of it fits. Assumes nothing.
use mathlib.Core.Path.{◌≡◌, refl, sym, ap, ap₂, ◌∙◌, subst}
use mathlib.Core.Bool.{Bool, true, false, cond}
use mathlib.Core.List.{List, [], ◌∷◌, map}
use Prim.Native.Nat.{ℕ, zero, suc, ◌+◌, ◌*◌, ◌<◌}
use native.Mathlib.Nat.{add-zero, zero-add}
use native.Mathlib.Omega.{arith}
use lib.Dec.{eqb}
use lib.ListN.{length}
use lib.Seq.{sets}
use lib.Ieee.{Float}
use borrow.Author.Tests.{eq-eqb, ne_eqb}
use Rattle.lists.specs.Loops.{join, sum_of}
use Rattle.lists.proofs.Stores.{sets_none}
use Rattle.millimetre.specs.Millimetres.{millimetres}
use Rattle.coords.specs.Buffers.{vertex_numbers, normal_numbers}
use Rattle.object.specs.Object.{Shape, Object}
use Rattle.scene.specs.declared.headers.Header.{Header}
use Rattle.scene.specs.Contract.Headers.{header_at, shape_of, object_of}
use Rattle.face.specs.declared.Tally.{Tally}
use Rattle.face.specs.Faces.{Face, Piece, thin_in, kept_of, write_faces}
use Rattle.face.specs.Contract.Drawing.{tally, Drawing, drawing, counted, drawn}
use Rattle.lid.specs.Log.{log_numbers}
use Rattle.shape.specs.declared.Drawn.{Drawn}
use Rattle.shape.specs.Contract.Drawn.{CanDraw, DrewObject}
use Rattle.shape.specs.Shapes.{faces_of, log_of}
use Rattle.shape.specs.Contract.Stages.{last_of}
use Rattle.shape.proofs.Stages.{stages_faces}
use Rattle.mesh_progress.specs.declared.Progress.{Progress}
use Rattle.mesh.specs.Mesh.{Span, kept_by, thin_by, account_of, piece_of, span_of, span_numbers, account_numbers}
use Rattle.mesh_progress.specs.Contract.Pass.{drawn_into, clamped, span_by, Came, came_to, account_by, spans_more, advanced, CanAdvance, drawn_of, DrewBehind, pass_of, with_object, Fits, CanAdd, AddedObject}
use Rattle.mesh.proofs.Demand3.Spans.{piece_size}
use Rattle.mesh_progress.proofs.Pass.Tails.{tail_of, back_of, lent_back}

-- ---- the tails

same_drawn : {t t' : Tally} {o o' n n' : ℕ} → t ≡ t' → o ≡ o' → n ≡ n'
    → ◌≡◌ {A = Came} (record { tally = t; offered = o; entries = n }) (record { tally = t'; offered = o'; entries = n' })
same_drawn a b c = λ i. record { tally = a i; offered = b i; entries = c i }

-- what a builder has drawn, by what it was lent
module _ {limit : Float} {sh : Shape} {v : ℕ} {vs ns : List Float} {is ls : List ℕ} {d : Drawn} {vs' ns' : List Float} {is' ls' : List ℕ} (r : DrewObject limit sh v vs ns is ls d vs' ns' is' ls') where
  abbrev w : Piece
  w = write_faces limit v (faces_of sh)

  drew_all : drawing (last_of d.after) vs' ns' is'
      ≡ drawing (counted limit v (faces_of sh) (tally 0 0 0)) (sets vs 0 (vertex_numbers w.vertices)) (sets ns 0 (normal_numbers w.normals)) (sets is 0 w.indices)
  unfolding drawn counted
  drew_all =
      let faces = faces_of sh in
      let made : ℕ → Drawing = λ first. drawing (counted limit first faces (tally 0 0 0)) (sets vs 0 (vertex_numbers (write_faces limit first faces).vertices)) (sets ns 0 (normal_numbers (write_faces limit first faces).normals)) (sets is 0 (write_faces limit first faces).indices) in
      r.drew.drew.after ∙ ap (λ (fs : List Face). drawn limit fs v (drawing (tally 0 0 0) vs ns is)) (stages_faces sh) ∙ ap made (add-zero v)

  pub drawn_is : came_to d ≡ drawn_of limit v sh
  unfolding counted drawn_of kept_by thin_by
  drawn_is =
      let faces = faces_of sh in
      same_drawn (ap (λ (x : Drawing). x.tally) drew_all ∙ (λ i. tally (zero-add (length w.vertices) i) (zero-add (sum_of (λ f. length (kept_of limit f)) faces) i) (zero-add (sum_of (thin_in limit) faces) i))) r.offered r.entries

module _ (limit : Float) (sh : Shape) (p : Progress) (vs ns : List Float) (is ls : List ℕ) {d : Drawn} {vs' ns' : List Float} {is' ls' : List ℕ} where
  drew_at_starts : DrewObject limit sh p.vertices (tail_of vs (clamped (length vs) (3 * p.vertices))) (tail_of ns (clamped (length ns) (3 * p.vertices)))
      (tail_of is (clamped (length is) (3 * p.kept))) (tail_of ls (clamped (length ls) (4 * p.entries))) d vs' ns' is' ls'
      → DrewBehind limit sh p (came_to d) vs ns is ls (back_of vs (clamped (length vs) (3 * p.vertices)) vs') (back_of ns (clamped (length ns) (3 * p.vertices)) ns')
      (back_of is (clamped (length is) (3 * p.kept)) is') (back_of ls (clamped (length ls) (4 * p.entries)) ls')
  drew_at_starts r =
      let w = write_faces limit p.vertices (faces_of sh) in
      record {
        drawn = drawn_is r;
        vertices = ap (λ (x : Drawing). back_of vs (clamped (length vs) (3 * p.vertices)) x.vertices) (drew_all r) ∙ lent_back vs (3 * p.vertices) (vertex_numbers w.vertices);
        normals = ap (λ (x : Drawing). back_of ns (clamped (length ns) (3 * p.vertices)) x.normals) (drew_all r) ∙ lent_back ns (3 * p.vertices) (normal_numbers w.normals);
        indices = ap (λ (x : Drawing). back_of is (clamped (length is) (3 * p.kept)) x.indices) (drew_all r) ∙ lent_back is (3 * p.kept) w.indices;
        log = ap (λ (x : List ℕ). back_of ls (clamped (length ls) (4 * p.entries)) x) r.log ∙ lent_back ls (4 * p.entries) (log_numbers (log_of sh));
      }

  -- what a builder that was lent the tails has drawn stands behind what the buffers hold
  pub drew_behind : {a b k e : ℕ} → a ≡ clamped (length vs) (3 * p.vertices) → b ≡ clamped (length ns) (3 * p.vertices) → k ≡ clamped (length is) (3 * p.kept)
      → e ≡ clamped (length ls) (4 * p.entries) → DrewObject limit sh p.vertices (tail_of vs a) (tail_of ns b) (tail_of is k) (tail_of ls e) d vs' ns' is' ls'
      → DrewBehind limit sh p (came_to d) vs ns is ls (back_of vs a vs') (back_of ns b ns') (back_of is k is') (back_of ls e ls')
  drew_behind p₁ p₂ p₃ p₄ r = rw (p₁, p₂, p₃, p₄) (drew_at_starts (rw (p₁, p₂, p₃, p₄) at r))

-- ---- all of it fits

module _ {limit : Float} {s : List ℕ} {p : Progress} (a : CanAdd limit s p) where
  -- what the next object counts to
  next_fits : Fits (with_object limit (object_of s p.at (header_at s p.at)) (pass_of p (drawn_into [] [] [] [] [] [])))
  next_fits = a.fits (drawn_into [] [] [] [] [] [])

  pub record_inside : p.at < length s
  unfolding header_at
  record_inside = omega (arith, a.inside)

  can_draw_next : CanDraw s (p.at + 5) (header_at s p.at).body p.vertices
  unfolding header_at with_object
  can_draw_next =
      let i = a.inside in
      let v = next_fits.vertices in
      record { limits = a.limits; inside = omega arith; short = a.short; few = omega arith }

  module _ {h : Header} (e : h ≡ header_at s p.at) where
    pub can_draw : CanDraw s (p.at + 5) h.body p.vertices
    can_draw = subst (λ (x : Header). CanDraw s (p.at + 5) x.body p.vertices) (sym e) can_draw_next

    pub can_advance : (d : Came) → d ≡ drawn_of limit p.vertices (shape_of s (p.at + 5) h.body) → CanAdvance p h.size d
    unfolding drawn_of with_object piece_of
    can_advance d q =
        let r = subst (λ (x : Header). d ≡ drawn_of limit p.vertices (shape_of s (p.at + 5) x.body)) e q in
        let x = ap (λ (x : Came). x.tally.vertices) r in
        let y = ap (λ (x : Came). x.tally.kept) r in
        let z = ap (λ (x : Came). x.entries) r in
        let i = a.inside in
        let n = a.short in
        let v = next_fits.vertices in
        let k = next_fits.indices in
        let l = next_fits.log in
        let ss = next_fits.spans in
        let o = next_fits.account in
        subst (λ (x : Header). CanAdvance p x.size d) (sym e)
        (record { at = omega arith; objects = omega arith; vertices = omega arith; kept = omega arith; spans = omega arith; entries = omega arith })

-- ---- the span

same_test : (n k : ℕ) → n ≡ 3 * k → eqb n 0 ≡ eqb k 0
same_test n zero h = eq-eqb n 0 (omega arith)
same_test n (suc k) h = ne_eqb n 0 (λ z. omega arith) ∙ sym (ne_eqb (suc k) 0 (λ z. omega arith))

span_is : (limit : Float) (p : Progress) (o : Object) → span_by o.id p (drawn_of limit p.vertices o.shape).tally ≡ span_of o.id p.vertices (3 * p.kept) (piece_of limit p.vertices o)
unfolding span_by span_of drawn_of piece_of
span_is limit p o =
    let w = write_faces limit p.vertices (faces_of o.shape) in
    let size : length w.indices ≡ 3 * kept_by limit o.shape = piece_size limit p.vertices o in
    let made : Bool → ℕ → List Span = λ b end. cond b [] (record { id = o.id; vertex_start = p.vertices; vertex_end = p.vertices + length w.vertices; index_start = 3 * p.kept; index_end = end } ∷ []) in
    ap₂ made (sym (same_test (length w.indices) (kept_by limit o.shape) size)) (ends p.kept (kept_by limit o.shape) (length w.indices) size)
  where
    ends : (a b c : ℕ) → c ≡ 3 * b → 3 * (a + b) ≡ 3 * a + c
    ends a b c h = omega arith

one_or_none : {A : Type 0} (b : Bool) (x : A) → cond b 0 1 ≡ length (cond b [] (x ∷ []))
one_or_none true x = refl
one_or_none false x = refl

span_count : (id : ℕ) (p : Progress) (t : Tally) → spans_more t.kept ≡ length (span_by id p t)
unfolding span_by
span_count id p t = one_or_none (eqb t.kept 0) _

-- ---- the object

module _ (limit : Float) (s : List ℕ) (p : Progress) (vs ns : List Float) (is ss accounts ls : List ℕ) {vs' ns' : List Float} {is' ss' accounts' ls' : List ℕ} {h : Header} {d : Came} {r : Progress} where
  added_by : h ≡ header_at s p.at → DrewBehind limit (shape_of s (p.at + 5) (header_at s p.at).body) p d vs ns is ls vs' ns' is' ls'
      → ss' ≡ sets ss (5 * p.spans) (span_numbers (span_by (header_at s p.at).id p d.tally)) → accounts' ≡ sets accounts (4 * p.objects) (account_by d) → r ≡ advanced p h.size d
      → pass_of r (drawn_into vs' ns' is' ss' accounts' ls') ≡ with_object limit (object_of s p.at (header_at s p.at)) (pass_of p (drawn_into vs ns is ss accounts ls))
  unfolding with_object piece_of account_of drawn_of account_numbers join
  added_by e w x y z =
      let H = header_at s p.at in
      let o = object_of s p.at H in
      let D = drawn_of limit p.vertices o.shape in
      let q : d ≡ D = w.drawn in
      let spans-are : span_by H.id p d.tally ≡ span_of H.id p.vertices (3 * p.kept) (piece_of limit p.vertices o) = ap (λ (k : Came). span_by H.id p k.tally) q ∙ span_is limit p o in
      let more : p.spans + spans_more d.tally.kept ≡ p.spans + length (span_of H.id p.vertices (3 * p.kept) (piece_of limit p.vertices o)) =
      ap (λ (k : ℕ). p.spans + k) (span_count H.id p d.tally ∙ ap length spans-are) in
      λ i. record {
        objects = ap (λ (k : Progress). k.objects) z i;
        vertices = (ap (λ (k : Progress). k.vertices) z ∙ ap (λ (k : Came). p.vertices + k.tally.vertices) q) i;
        kept = (ap (λ (k : Progress). k.kept) z ∙ ap (λ (k : Came). p.kept + k.tally.kept) q) i;
        spans = (ap (λ (k : Progress). k.spans) z ∙ more) i;
        entries = (ap (λ (k : Progress). k.entries) z ∙ ap (λ (k : Came). p.entries + k.entries) q) i;
        buffers = record {
          vertices = w.vertices i;
          normals = w.normals i;
          indices = w.indices i;
          spans = (x ∙ ap (λ (k : List Span). sets ss (5 * p.spans) (span_numbers k)) spans-are) i;
          account = (y ∙ ap (λ (k : Came). sets accounts (4 * p.objects) (account_by k)) q) i;
          log = w.log i;
          millimetres = sets_none [] (3 * p.vertices) (map millimetres (vertex_numbers (write_faces limit p.vertices (faces_of o.shape)).vertices)) refl i;
        };
      }

  pub added_object : h ≡ header_at s p.at → DrewBehind limit (shape_of s (p.at + 5) h.body) p d vs ns is ls vs' ns' is' ls'
      → ss' ≡ sets ss (5 * p.spans) (span_numbers (span_by h.id p d.tally)) → accounts' ≡ sets accounts (4 * p.objects) (account_by d) → r ≡ advanced p h.size d
      → AddedObject limit s p r (drawn_into vs ns is ss accounts ls) (drawn_into vs' ns' is' ss' accounts' ls')
  added_object e w x y z =
      record {
        next = ap (λ (k : Progress). k.at) z ∙ ap (λ (k : Header). p.at + k.size) e;
        pass =
            added_by e (subst (λ (k : Header). DrewBehind limit (shape_of s (p.at + 5) k.body) p d vs ns is ls vs' ns' is' ls') e w)
            (x ∙ ap (λ (k : Header). sets ss (5 * p.spans) (span_numbers (span_by k.id p d.tally))) e) y z;
      }
