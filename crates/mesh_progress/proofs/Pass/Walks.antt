-- The loop over the records: its invariant at the start, after an object and at the end. Assumes nothing.
use mathlib.Core.Path.{◌≡◌, refl, sym, ap, ◌∙◌, subst}
use mathlib.Core.List.{List, []}
use Prim.Native.Nat.{ℕ, ◌+◌, ◌≤◌, ◌<◌, ◌^◌, zero-le}
use native.Mathlib.Nat.{add-zero}
use native.Mathlib.Omega.{arith}
use lib.ListN.{length, drop, drop_of_length-le}
use lib.Ieee.{Float}
use Rattle.object.specs.Object.{Object}
use Rattle.std.specs.Prelude.{Ok}
use Rattle.scene.specs.Scene.{accepted, scene, trailer}
use Rattle.scene.specs.Contract.Answers.{checked_of, objects_of}
use Rattle.scene.specs.Contract.Headers.{header_at, object_of}
use Rattle.scene.proofs.Walk.{Walking, walk_object, walk_next, walk_limits, walk_inside, AcceptedAs, checked_accepted, trailer_inside}
use Rattle.mesh_answer.specs.declared.Counted.{Counted}
use Rattle.mesh_answer.specs.Answers.{counts_from}
use Rattle.mesh_progress.specs.declared.Progress.{Progress}
use Rattle.mesh_progress.specs.Contract.Wrote.{counted_by, WroteAll}
use Rattle.mesh.specs.PerBuffer.{Buffers}
use Rattle.mesh.specs.Operations.{counts_of}
use Rattle.mesh_progress.specs.Contract.Pass.{drawn_into, beginning, Pass, pass_of, with_object, with_objects, Fits, CanAdd, AddedObject, CanAddAll, AddedAll}
use Rattle.mesh_progress.proofs.Pass.Objects.{objects_none, objects_next, object_lengths, fewer_fit, other_buffers, wrote_all}

-- from p₀ with its buffers b₀, k objects of the scene have led to p with b
pub record Walks (limit : Float) (s : List ℕ) (n : ℕ) (p₀ : Progress) (b₀ b : Buffers) (p : Progress) : Type 0 where
  pub os : List Object
  pub k : ℕ
  pub known : AcceptedAs s n os
  pub walking : Walking s (trailer s n) n os k p.at
  pub counted : p.objects ≡ p₀.objects + k
  pub few : k ≤ n
  pub fits : Fits (with_objects limit os (pass_of p₀ b₀))
  pub lengths : counts_of b ≡ counts_of b₀
  pub same : with_objects limit (drop k os) (pass_of p b) ≡ with_objects limit os (pass_of p₀ b₀)

abbrev pub begun_at : Progress → Progress
begun_at p = record { at = 0; objects = p.objects; vertices = p.vertices; kept = p.kept; spans = p.spans; entries = p.entries }

pub walks_start : (limit : Float) (s : List ℕ) (n : ℕ) (p : Progress) (b : Buffers) → Ok n ≡ checked_of (scene s) → CanAddAll limit s p → Walks limit s n p b b (begun_at p)
walks_start limit s n p b h c =
    let q = checked_accepted s n h in
    record {
      os = objects_of (scene s);
      k = 0;
      known = q;
      walking = q.begins;
      counted = sym (add-zero p.objects);
      few = zero-le;
      fits = c (objects_of (scene s)) b q.is;
      lengths = refl;
      same = refl;
    }

-- the number of the last object fits
pub end_fits : (limit : Float) (s : List ℕ) (n : ℕ) (p : Progress) → Ok n ≡ checked_of (scene s) → CanAddAll limit s p → p.objects + n < 2 ^ 32
unfolding with_objects
end_fits limit s n p h c =
    let q = checked_accepted s n h in
    let size = q.size in
    let f = (c (objects_of (scene s)) (drawn_into [] [] [] [] [] []) q.is).account in
    omega arith

module _ {limit : Float} {s : List ℕ} {n : ℕ} {p₀ : Progress} {b₀ b : Buffers} {p : Progress} (w : Walks limit s n p₀ b₀ b p) where
  -- objects are left
  more : p.objects < p₀.objects + n → w.k < n
  more l = let e = w.counted in omega arith

  -- the next object and those behind it
  next_is : w.k < n → with_objects limit (drop (w.k + 1) w.os) (with_object limit (object_of s p.at (header_at s p.at)) (pass_of p b)) ≡ with_objects limit w.os (pass_of p₀ b₀)
  next_is l =
      objects_next limit (object_of s p.at (header_at s p.at)) (drop (w.k + 1) w.os) (pass_of p b)
      ∙ ap (λ (r : List Object). with_objects limit r (pass_of p b)) (sym (walk_object w.walking l))
      ∙ w.same

  pub can_add : p.objects < p₀.objects + n → CanAdd limit s p
  can_add l =
      let m = more l in
      let o = object_of s p.at (header_at s p.at) in
      let f : Fits (with_object limit o (pass_of p b)) = fewer_fit limit (drop (w.k + 1) w.os) (with_object limit o (pass_of p b)) (subst Fits (sym (next_is m)) w.fits) in
      record {
        limits = walk_limits w.walking m;
        inside = let i = walk_inside w.walking m in omega (arith, trailer_inside s n);
        short = w.known.short;
        fits = λ c. other_buffers limit o p b c f;
      }

  module _ (l : p.objects < p₀.objects + n) {b' : Buffers} {p' : Progress} (q : AddedObject limit s p p' b b') where
    abbrev o : Object
    o = object_of s p.at (header_at s p.at)

    pub one_more : p'.objects ≡ p.objects + 1
    unfolding with_object
    one_more = ap (λ (st : Pass). st.objects) q.pass

    pub walks_next : Walks limit s n p₀ b₀ b' p'
    walks_next =
        let m = more l in
        record {
          os = w.os;
          k = w.k + 1;
          known = w.known;
          walking = subst (λ (i : ℕ). Walking s (trailer s n) n w.os (w.k + 1) i) (sym q.next) (walk_next w.walking m);
          counted = let t = one_more in let e = w.counted in omega arith;
          few = omega arith;
          fits = w.fits;
          lengths = ap (λ (st : Pass). counts_of st.buffers) q.pass ∙ object_lengths limit o (pass_of p b) ∙ w.lengths;
          same = ap (with_objects limit (drop (w.k + 1) w.os)) q.pass ∙ next_is m;
        }

  -- the objects are those that the scene tells
  same_objects : (os' : List Object) → scene s ≡ accepted os' → w.os ≡ os'
  same_objects os' e = inject (sym w.known.is ∙ e)
    where
      inject : {x y : List Object} → accepted x ≡ accepted y → x ≡ y
      inject q = cc

  pub walks_end : p₀.objects + n ≤ p.objects → (os' : List Object) → scene s ≡ accepted os' → AddedAll limit os' p₀ p b₀ b
  walks_end h os' e =
      let size = w.known.size in
      let c = w.counted in
      let all : length w.os ≤ w.k = omega arith in
      record {
        pass =
            sym (objects_none limit (pass_of p b))
            ∙ ap (λ (r : List Object). with_objects limit r (pass_of p b)) (sym (drop_of_length-le w.os all))
            ∙ w.same
            ∙ ap (λ (r : List Object). with_objects limit r (pass_of p₀ b₀)) (same_objects os' e);
      }

-- ---- a scene of its own

-- what has been added fits where the scene's objects do
pub added_fits : (limit : Float) (s : List ℕ) (n : ℕ) {p : Progress} {b b' : Buffers} → Ok n ≡ checked_of (scene s) → CanAddAll limit s beginning
    → ((os : List Object) → scene s ≡ accepted os → AddedAll limit os beginning p b b') → Fits (pass_of p b')
added_fits limit s n {p} {b} h c a =
    let q = checked_accepted s n h in
    subst Fits (sym (a (objects_of (scene s)) q.is).pass) (c (objects_of (scene s)) b q.is)

pub added_wrote : {limit : Float} {os : List Object} {p : Progress} {b b' : Buffers} {c : Counted} → counts_from c ≡ counted_by p → AddedAll limit os beginning p b b' → WroteAll limit os c b b'
added_wrote {limit} {os} {p} {b} {b'} e a = wrote_all limit os p b b' a.pass e
