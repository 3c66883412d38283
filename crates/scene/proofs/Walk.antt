-- What a pass over the records of an accepted scene rests on. Its loop keeps `Walking s e n os k i`: from number k and place i on, the records are the objects os
-- without the first k. Record k is the object that its header tells of (`walk_object`), the next one starts where it ends (`walk_next`), and the trailer's
-- entry k is its place (`walk_entry`). Assumes nothing.
use mathlib.Core.Path.{◌≡◌, refl, sym, ap, ◌∙◌, subst}
use Prim.Native.Nat.{ℕ, zero, suc, ◌+◌, ◌-◌, ◌*◌, ◌≤◌, ◌<◌}
use native.Mathlib.Nat.{sub-zero}
use native.Mathlib.Numerals.{add-one}
use native.Mathlib.Omega.{arith}
use mathlib.Core.Bool.{Bool, true, false, ◌||◌, cond}
use mathlib.Core.List.{List, [], ◌∷◌}
use lib.ListN.{length, get_or, drop}
use lib.Seq.{drop-drop}
use lib.Dec.{ltb, eqb}
use Rattle.std.specs.Prelude.{Ok, Err}
use borrow.Author.Tests.{eqb-true, ltb-false}
use Rattle.object.specs.Object.{Object}
use Rattle.refusal.specs.declared.Refusal.{Refusal}
use Rattle.refusal.specs.declared.Refusal.TheVariants.{Length, Trailer, Start}
use Rattle.refusal.specs.declared.Refused.{Refused}
use Rattle.scene_field.specs.Layout.{most_bytes, most_objects}
use Rattle.scene_field.specs.Fields.{u32_at}
use Rattle.scene.specs.Scene.{Record, bad, good, record_at, Scene, refused, accepted, prepend, record_then, records_from, trailer, count_at, scene}
use Rattle.scene.specs.Contract.Answers.{checked_of, objects_of}
use Rattle.scene.specs.Contract.Headers.{body_at, body_size, object_of, header_at, Limits}
use Rattle.scene.proofs.Described.{Read, read}
use Rattle.scene.proofs.SceneLaws.{one_less, same_ok}

unlike : {t : Scene} {r : Refusal} {object : ℕ} {os : List Object} → t ≡ refused r object → t ≡ accepted os → ⊥
unlike p q = let z : ◌≡◌ {A = ℕ} 0 1 = cc in omega arith

opened : (b : Bool) (t : Scene) (k : ℕ) (os : List Object) → cond b t (refused Start k) ≡ accepted os → (b ≡ true) × (t ≡ accepted os)
opened true t k os h = (refl, h)
opened false t k os h = absurd (unlike refl h)

prepended : (o : Object) (t : Scene) (os : List Object) → prepend o t ≡ accepted os → (later : List Object) × (t ≡ accepted later) × (os ≡ o ∷ later)
unfolding prepend
prepended o (refused r object) os h = absurd (unlike refl h)
prepended o (accepted later) os h = (later, refl, cc)

-- the record that is taken, and what follows it
then_accepted : (k : ℕ) (later : ℕ → Scene) (t : Record) (os : List Object) → record_then k later t ≡ accepted os
    → (o : Object) × (next : ℕ) × (rest : List Object) × (t ≡ good o next) × (later next ≡ accepted rest) × (os ≡ o ∷ rest)
unfolding record_then
then_accepted k later (bad r) os h = absurd (unlike refl h)
then_accepted k later (good o next) os h = let p = prepended o (later next) os h in (o, next, p.0, refl, p.1, p.2)

-- ---- one record and those behind it

module _ (s : List ℕ) (e : ℕ) where
  pub record First (n k i : ℕ) (os : List Object) : Type 0 where
    pub next : ℕ
    pub later : List Object
    pub entry : u32_at s (e + 4 * k) ≡ i
    pub here : Read s e i (object_of s i (header_at s i)) next
    pub rest : records_from s e n (suc k) next ≡ accepted later
    pub objects : os ≡ object_of s i (header_at s i) ∷ later

  first_record : (n k i : ℕ) (os : List Object) → records_from s e (suc n) k i ≡ accepted os → First n k i os
  unfolding records_from
  first_record n k i os h =
      let p = opened (eqb (u32_at s (e + 4 * k)) i) _ k os h in
      let q = then_accepted k (λ next. records_from s e n (suc k) next) (record_at s e i) os p.1 in
      let d = read s e i q.0 q.1 q.3 in
      record {
        next = q.1;
        later = q.2;
        entry = eqb-true (u32_at s (e + 4 * k)) i p.0;
        here = subst (λ (o : Object). Read s e i o q.1) d.object d;
        rest = q.4;
        objects = q.5 ∙ ap (λ (o : Object). o ∷ q.2) d.object;
      }

  all_records : (n k i : ℕ) (os : List Object) → records_from s e n k i ≡ accepted os → length os ≡ n
  unfolding records_from
  all_records zero k i os h = let p = opened (eqb i e) (accepted []) k os h in let q : [] ≡ os = cc in ap length (sym q)
  all_records (suc n) k i os h = let f = first_record n k i os h in ap length f.objects ∙ ap suc (all_records n (suc k) f.next f.later f.rest)

-- ---- a loop over the records

pub record Walking (s : List ℕ) (e n : ℕ) (os : List Object) (k i : ℕ) : Type 0 where
  pub rest : records_from s e (n - k) k i ≡ accepted (drop k os)

module _ {s : List ℕ} {e n : ℕ} {os : List Object} {k i : ℕ} (w : Walking s e n os k i) where
  first_of : k < n → First s e (n - suc k) k i (drop k os)
  first_of l = first_record s e (n - suc k) k i (drop k os) (ap (λ (m : ℕ). records_from s e m k i) (sym (one_less n k l)) ∙ w.rest)

  -- record k starts where the trailer says
  pub walk_entry : k < n → u32_at s (e + 4 * k) ≡ i
  walk_entry l = (first_of l).entry

  later_is : (l : k < n) → (first_of l).later ≡ drop (k + 1) os
  later_is l = ap (drop 1) (sym (first_of l).objects) ∙ drop-drop 1 k os

  -- it is the object that its header tells of
  pub walk_object : k < n → drop k os ≡ object_of s i (header_at s i) ∷ drop (k + 1) os
  walk_object l = (first_of l).objects ∙ ap (λ (r : List Object). object_of s i (header_at s i) ∷ r) (later_is l)

  -- the next one starts where it ends
  pub walk_next : k < n → Walking s e n os (k + 1) (i + (header_at s i).size)
  walk_next l =
      let f = first_of l in
      record {
        rest = ap (λ (m : ℕ). records_from s e (n - m) m (i + (header_at s i).size)) (add-one k) ∙ ap (records_from s e (n - suc k) (suc k)) (sym f.here.ends) ∙ f.rest ∙ ap accepted (later_is l);
      }

  -- its counts are within their limits, and it lies before the trailer
  pub walk_limits : k < n → Limits s (i + 5) (header_at s i).body
  walk_limits l = (first_of l).here.limits

  pub walk_body : k < n → i + 5 ≤ e
  unfolding header_at
  walk_body l = let f = first_of l in longer i (body_size (body_at s (i + 5) (get_or s i 0))) e (subst (λ (m : ℕ). m ≤ e) f.here.ends f.here.inside)
    where
      longer : (i m e : ℕ) → i + (5 + m) ≤ e → i + 5 ≤ e
      longer i m e h = omega arith

  pub walk_inside : k < n → i + (header_at s i).size ≤ e
  walk_inside l = let f = first_of l in subst (λ (m : ℕ). m ≤ e) f.here.ends f.here.inside

-- ---- an accepted scene

pub trailer_inside : (s : List ℕ) (n : ℕ) → trailer s n ≤ length s
unfolding trailer
trailer_inside s n = omega arith

pub record AcceptedAs (s : List ℕ) (n : ℕ) (os : List Object) : Type 0 where
  pub is : scene s ≡ accepted os
  pub count : n ≡ count_at s
  pub size : length os ≡ n
  pub few : n ≤ most_objects
  pub room : 4 * n + 4 ≤ length s
  pub short : length s ≤ most_bytes
  pub begins : Walking s (trailer s n) n os 0 0

-- two tests in a row that both let pass
passed : (a b : Bool) (r : Refusal) (t : Scene) (os : List Object) → cond (a || b) (refused r 0) t ≡ accepted os → (a ≡ false) × (b ≡ false) × (t ≡ accepted os)
passed true b r t os h = absurd (unlike refl h)
passed false true r t os h = absurd (unlike refl h)
passed false false r t os h = (refl, refl, h)

pub accepted_scene : (s : List ℕ) (os : List Object) → scene s ≡ accepted os → AcceptedAs s (count_at s) os
unfolding scene
accepted_scene s os h =
    let n = count_at s in
    let p = passed (ltb (length s) 4) (ltb most_bytes (length s)) Length _ os h in
    let q = passed (ltb most_objects n) (ltb (length s) (4 * n + 4)) Trailer (records_from s (trailer s n) n 0 0) os p.2 in
    record {
      is = h;
      count = refl;
      size = all_records s (trailer s n) n 0 0 os q.2;
      few = ltb-false most_objects n q.0;
      room = ltb-false (length s) (4 * n + 4) q.1;
      short = ltb-false most_bytes (length s) p.1;
      begins = record { rest = ap (λ (m : ℕ). records_from s (trailer s n) m 0 0) (sub-zero n) ∙ q.2 };
    }

-- what `check_scene` says by `Ok n`, and by `Err`
pub checked_accepted : (s : List ℕ) (n : ℕ) → Ok n ≡ checked_of (scene s) → AcceptedAs s n (objects_of (scene s))
checked_accepted s n h = go (scene s) refl h
  where
    go : (t : Scene) → scene s ≡ t → Ok n ≡ checked_of t → AcceptedAs s n (objects_of t)
    go (refused r object) q p = let z : ◌≡◌ {A = ℕ} 0 1 = cc in absurd (contra z)
      where
        contra : ◌≡◌ {A = ℕ} 0 1 → ⊥
        contra z = omega arith
    go (accepted os) q p =
        let a = accepted_scene s os q in
        let m : count_at s ≡ n = sym a.size ∙ sym (same_ok p) in
        subst (λ (j : ℕ). AcceptedAs s j os) m a

pub checked_refused : (t : Scene) (r : Refused) → Err r ≡ checked_of t → t ≡ refused r.refusal r.object
checked_refused (refused a b) r h = cc
checked_refused (accepted os) r h = cc
