-- What the definition of a scene gives, by the tests that the program makes on the way. Assumes nothing.
use mathlib.Core.Path.{◌≡◌, refl, sym, ap, ◌∙◌}
use Prim.Native.Nat.{ℕ, suc, ◌+◌, ◌-◌, ◌*◌, ◌≤◌, ◌<◌}
use native.Mathlib.Nat.{add_assoc, zero-add, sub-zero}
use native.Mathlib.Numerals.{add-one, one-add}
use native.Mathlib.Omega.{arith}
use mathlib.Core.List.{List}
use lib.ListN.{length}
use Rattle.std.specs.Prelude.{Result, Ok, Err}
use borrow.Author.Tests.{eq-eqb, ne_eqb, lt-ltb, le-ltb}
use Rattle.object.specs.Object.{Object}
use Rattle.refusal.specs.declared.Refusal.{Refusal}
use Rattle.refusal.specs.declared.Refusal.TheVariants.{Length, Trailer, Start}
use Rattle.refusal.specs.declared.Refused.{Refused}
use Rattle.scene_field.specs.Layout.{most_bytes, most_objects}
use Rattle.scene_field.specs.Fields.{u32_at}
use Rattle.scene.specs.Scene.{Record, bad, good, record_at, Scene, refused, accepted, prepend, record_then, records_from, trailer, count_at, scene}
use Rattle.scene.specs.Contract.Answers.{end_of, checked_of}

-- k objects more
abbrev pub plus : ℕ → Result ℕ Refused → Result ℕ Refused
plus k (Err r) = Err r
plus k (Ok n) = Ok (k + n)

pub plus_none : (t : Result ℕ Refused) → t ≡ plus 0 t
plus_none (Err r) = refl
plus_none (Ok n) = ap Ok (sym (zero-add n))

plus_one : (k : ℕ) (t : Result ℕ Refused) → plus k (plus 1 t) ≡ plus (k + 1) t
plus_one k (Err r) = refl
plus_one k (Ok n) = ap Ok (sym (add_assoc k 1 n))

checked_prepend : (o : Object) (t : Scene) → checked_of (prepend o t) ≡ plus 1 (checked_of t)
unfolding prepend
checked_prepend o (refused r object) = refl
checked_prepend o (accepted os) = ap Ok (sym (one-add (length os)))

pub same_ok : {E : Type 0} {a b : ℕ} → ◌≡◌ {A = Result ℕ E} (Ok a) (Ok b) → a ≡ b
same_ok q = cc

-- what follows a record, by where it ends
then_bad : (k : ℕ) (later : ℕ → Scene) (r : Refusal) (t : Record) → Err r ≡ end_of t → checked_of (record_then k later t) ≡ Err (record { refusal = r; object = k })
unfolding record_then
then_bad k later r (bad f) q = cc
then_bad k later r (good o next) q = cc

then_good : (k : ℕ) (later : ℕ → Scene) (next : ℕ) (t : Record) → Ok next ≡ end_of t → checked_of (record_then k later t) ≡ plus 1 (checked_of (later next))
unfolding record_then
then_good k later next (bad f) q = cc
then_good k later next (good o m) q = checked_prepend o (later m) ∙ ap (λ (j : ℕ). plus 1 (checked_of (later j))) (sym (same_ok q))

pub one_less : (n k : ℕ) → k < n → n - k ≡ suc (n - suc k)
one_less n k h = omega arith

module _ (s : List ℕ) (e n : ℕ) where
  -- the records from number k on, of n, from place i on
  abbrev pub ahead : ℕ → ℕ → Result ℕ Refused
  ahead k i = checked_of (records_from s e (n - k) k i)

  pub ahead_all : ahead 0 0 ≡ checked_of (records_from s e n 0 0)
  ahead_all = ap (λ (m : ℕ). checked_of (records_from s e m 0 0)) (sub-zero n)

  module _ (k i : ℕ) (l : k < n) where
    at_one : ahead k i ≡ checked_of (records_from s e (suc (n - suc k)) k i)
    at_one = ap (λ (m : ℕ). checked_of (records_from s e m k i)) (one_less n k l)

    pub ahead_start : (u32_at s (e + 4 * k) ≡ i → ⊥) → ahead k i ≡ Err (record { refusal = Start; object = k })
    unfolding records_from
    ahead_start h = at_one ∙ (rw (ne_eqb (u32_at s (e + 4 * k)) i h))

    abbrev later : ℕ → Scene
    later next = records_from s e (n - suc k) (suc k) next

    by_record : u32_at s (e + 4 * k) ≡ i → ahead k i ≡ checked_of (record_then k later (record_at s e i))
    unfolding records_from
    by_record h = at_one ∙ (rw (eq-eqb (u32_at s (e + 4 * k)) i h))

    pub ahead_bad : (r : Refusal) → u32_at s (e + 4 * k) ≡ i → Err r ≡ end_of (record_at s e i) → ahead k i ≡ Err (record { refusal = r; object = k })
    ahead_bad r h q = by_record h ∙ then_bad k later r (record_at s e i) q

    pub ahead_good : (next : ℕ) → u32_at s (e + 4 * k) ≡ i → Ok next ≡ end_of (record_at s e i) → (j : ℕ) → plus j (ahead k i) ≡ plus (j + 1) (ahead (k + 1) next)
    ahead_good next h q j =
        ap (plus j) (by_record h ∙ then_good k later next (record_at s e i) q)
        ∙ plus_one j (checked_of (later next))
        ∙ ap (λ (m : ℕ). plus (j + 1) (ahead m next)) (sym (add-one k))

  module _ (k i : ℕ) (l : n ≤ k) where
    none : n - k ≡ 0
    none = omega arith

    pub ahead_end : i ≡ e → ahead k i ≡ Ok 0
    unfolding records_from
    ahead_end h = rw (none, eq-eqb i e h)

    pub ahead_short : (i ≡ e → ⊥) → ahead k i ≡ Err (record { refusal = Start; object = k })
    unfolding records_from
    ahead_short h = rw (none, ne_eqb i e h)

-- ---- the scene's length and its trailer

module _ (s : List ℕ) where
  pub scene_short : length s < 4 → Err (record { refusal = Length; object = 0 }) ≡ checked_of (scene s)
  unfolding scene
  scene_short h = rw (lt-ltb (length s) 4 h)

  pub scene_long : 4 ≤ length s → most_bytes < length s → Err (record { refusal = Length; object = 0 }) ≡ checked_of (scene s)
  unfolding scene
  scene_long l h = rw (le-ltb (length s) 4 l, lt-ltb most_bytes (length s) h)

  module _ (l : 4 ≤ length s) (u : length s ≤ most_bytes) (n : ℕ) (is : n ≡ count_at s) where
    pub scene_many : most_objects < n → Err (record { refusal = Trailer; object = 0 }) ≡ checked_of (scene s)
    unfolding scene
    scene_many h = rw (le-ltb (length s) 4 l, le-ltb most_bytes (length s) u, ← is, lt-ltb most_objects n h)

    pub scene_trailer : n ≤ most_objects → length s < 4 * n + 4 → Err (record { refusal = Trailer; object = 0 }) ≡ checked_of (scene s)
    unfolding scene
    scene_trailer m h = rw (le-ltb (length s) 4 l, le-ltb most_bytes (length s) u, ← is, le-ltb most_objects n m, lt-ltb (length s) (4 * n + 4) h)

    pub scene_records : n ≤ most_objects → 4 * n + 4 ≤ length s → checked_of (records_from s (length s - (4 * n + 4)) n 0 0) ≡ checked_of (scene s)
    unfolding scene trailer
    scene_records m h = rw (le-ltb (length s) 4 l, le-ltb most_bytes (length s) u, ← is, le-ltb most_objects n m, le-ltb (length s) (4 * n + 4) h)
