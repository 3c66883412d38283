-- The loop over the records: its invariant at the start, after a record and at the end. Assumes nothing.
use mathlib.Core.Path.{◌≡◌, sym, ap, ◌∙◌, subst}
use mathlib.Core.List.{List}
use Prim.Native.Nat.{ℕ, ◌+◌, ◌≤◌, ◌<◌, zero-le}
use native.Mathlib.Nat.{add_assoc}
use native.Mathlib.Omega.{arith}
use lib.ListN.{length, get_or, drop, drop_of_length-le}
use lib.Ieee.{Float}
use Rattle.object.specs.Object.{Object}
use Rattle.scene.specs.declared.headers.Header.{Header}
use Rattle.std.specs.Prelude.{Ok}
use Rattle.scene.specs.Scene.{Scene, accepted, scene, trailer}
use Rattle.scene.specs.Contract.Answers.{checked_of, objects_of}
use Rattle.scene.specs.Contract.Headers.{body_at, header_at, shape_of}
use Rattle.scene.proofs.Walk.{Walking, walk_object, walk_next, walk_limits, walk_body, walk_inside, AcceptedAs, checked_accepted, trailer_inside}
use Rattle.shape.specs.Contract.Drawn.{CanDraw}
use Rattle.mesh_bound.specs.declared.Most.{Most}
use Rattle.mesh_bound.specs.declared.Group.{Group}
use Rattle.mesh_bound.specs.declared.Counting.{Counting}
use Rattle.mesh_bound.specs.Most.{nothing, together, of_all}
use Rattle.mesh_bound.specs.Contract.Groups.{bound_in, bound_of_all, Few, FewOfBoth}
use Rattle.mesh_bound.proofs.Exact.{together_none, none_together}
use Rattle.mesh_bound.proofs.Few.{few_among, few_together}
use Rattle.mesh_bound_scene.proofs.Headers.{few_bound}

together_more : (a b c : Most) → together (together a b) c ≡ together a (together b c)
together_more a b c = λ i. record {
  vertices = add_assoc a.vertices b.vertices c.vertices i;
  triangles = add_assoc a.triangles b.triangles c.triangles i;
  spans = add_assoc a.spans b.spans c.spans i;
  entries = add_assoc a.entries b.entries c.entries i;
}

-- k records lie before place `at`, and come to m in this group
pub record Sums (limit : Float) (group : Group) (counting : Counting) (s : List ℕ) (n : ℕ) (m : Most) (at k : ℕ) : Type 0 where
  pub known : AcceptedAs s n (objects_of (scene s))
  pub walking : Walking s (trailer s n) n (objects_of (scene s)) k at
  pub count : k ≤ n
  pub place : at ≤ trailer s n
  pub few : Few m at k
  pub same : together m (bound_of_all group counting limit (drop k (objects_of (scene s)))) ≡ bound_of_all group counting limit (objects_of (scene s))

pub sums_start : (limit : Float) (group : Group) (counting : Counting) (s : List ℕ) (n : ℕ) → Ok n ≡ checked_of (scene s) → Sums limit group counting s n nothing 0 0
sums_start limit group counting s n h =
    let q = checked_accepted s n h in
    record {
      known = q;
      walking = q.begins;
      count = zero-le;
      place = zero-le;
      few = record { vertices = zero-le; triangles = zero-le; spans = zero-le; entries = zero-le };
      same = none_together (bound_of_all group counting limit (objects_of (scene s)));
    }

module _ {limit : Float} {group : Group} {counting : Counting} {s : List ℕ} {n : ℕ} {m : Most} {at k : ℕ} (w : Sums limit group counting s n m at k) where
  abbrev os : List Object
  os = objects_of (scene s)

  abbrev bound : Header → Most
  bound h = bound_in group counting limit (shape_of s (at + 5) h.body)

  abbrev sum : List Object → Most
  sum = bound_of_all group counting limit

  module _ (l : k < n) where
    pub record_inside : at < length s
    record_inside = omega (arith, walk_body w.walking l, trailer_inside s n)

    can_draw : CanDraw s (at + 5) (header_at s at).body 0
    unfolding header_at
    can_draw = record { limits = walk_limits w.walking l; inside = omega (arith, walk_inside w.walking l, trailer_inside s n); short = w.known.short; few = omega arith }

    few_next : Few (bound (header_at s at)) (header_at s at).size 1
    unfolding header_at
    few_next = few_bound limit group counting s (at + 5) (body_at s (at + 5) (get_or s at 0)) (walk_limits w.walking l)

    module _ {h : Header} (e : h ≡ header_at s at) where
      pub can_read : CanDraw s (at + 5) h.body 0
      can_read = subst (λ (x : Header). CanDraw s (at + 5) x.body 0) (sym e) can_draw

      inside : at + h.size ≤ trailer s n
      inside = subst (λ (x : Header). at + x.size ≤ trailer s n) (sym e) (walk_inside w.walking l)

      pub place_fits : at + h.size ≤ 16777216
      place_fits = let short = w.known.short in let i = inside in omega (arith, trailer_inside s n)

      module _ {x : Most} (q : x ≡ bound h) where
        few_more : Few (together m x) (at + h.size) (k + 1)
        few_more =
            few_together w.few (subst (λ (y : Most). Few y h.size 1) (sym q) (subst (λ (y : Header). Few (bound y) y.size 1) (sym e) few_next))

        pub can_sum : FewOfBoth (together m x)
        can_sum = let i = place_fits in let few = w.known.few in few_among few_more (omega arith) (omega arith)

        pub sums_next : {m' : Most} → m' ≡ together m x → Sums limit group counting s n m' (at + h.size) (k + 1)
        unfolding bound_of_all of_all
        sums_next d =
            let y = bound (header_at s at) in
            let is : x ≡ y = q ∙ ap bound e in
            let rest = sum (drop (k + 1) os) in
            record {
              known = w.known;
              walking = subst (λ (z : Header). Walking s (trailer s n) n os (k + 1) (at + z.size)) (sym e) (walk_next w.walking l);
              count = omega arith;
              place = inside;
              few = subst (λ (z : Most). Few z (at + h.size) (k + 1)) (sym d) few_more;
              same =
                  ap (λ (z : Most). together z rest) d
                  ∙ ap (λ (z : Most). together (together m z) rest) is
                  ∙ together_more m y rest
                  ∙ ap (λ (r : List Object). together m (sum r)) (sym (walk_object w.walking l))
                  ∙ w.same;
            }

  pub sums_end : n ≤ k → Few m 16777216 65536 × ((os' : List Object) → scene s ≡ accepted os' → m ≡ sum os')
  unfolding bound_of_all of_all
  sums_end h =
      let size = w.known.size in
      let few = w.known.few in
      let short = w.known.short in
      let place = w.place in
      let count = w.count in
      let inside = trailer_inside s n in
      let all : length os ≤ k = omega arith in (
        few_among w.few (omega arith) (omega arith),
        λ os' e. sym (together_none m) ∙ ap (λ (r : List Object). together m (sum r)) (sym (drop_of_length-le os all)) ∙ w.same ∙ ap (λ (t : Scene). sum (objects_of t)) e,
      )
