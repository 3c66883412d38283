-- Runs of bytes written one behind the other, or the later ones first. Assumes nothing.
use mathlib.Core.Path.{◌≡◌, refl, sym, ap, ◌∙◌, subst}
use mathlib.Core.List.{List, [], ◌∷◌, ◌++◌}
use Prim.Native.Nat.{ℕ, suc, ◌+◌, ◌≤◌}
use native.Mathlib.Omega.{arith}
use lib.ListN.{length, set, length-append}
use lib.Seq.{sets, set_comm, length-sets}
use Rattle.lists.proofs.Stores.{sets_append}
use Rattle.decimal.specs.Contract.Texts.{Wrote, HasRoom}

module _ {A : Type 0} where
  -- a store behind a run may come first
  behind : (l : List A) (i j : ℕ) (a : List A) (x : A) → i + length a ≤ j → sets (set l j x) i a ≡ set (sets l i a) j x
  behind l i j [] x h = refl
  behind l i j (b ∷ a) x h =
      ap (λ (m : List A). sets m (suc i) a) (set_comm l j i x b (λ e. omega arith)) ∙ behind (set l i b) (suc i) j a x (omega arith)

  -- two runs, the second one first
  runs : (l : List A) (i j : ℕ) (a b : List A) → i + length a ≤ j → sets (sets l j b) i a ≡ sets (sets l i a) j b
  runs l i j a [] h = refl
  runs l i j a (x ∷ b) h = runs (set l j x) i (suc j) a b (omega arith) ∙ ap (λ (m : List A). sets m (suc j) b) (behind l i j a x h)

  pub end_first : (l : List A) (i : ℕ) (a b : List A) → sets (sets l (i + length a) b) i a ≡ sets l i (a ++ b)
  end_first l i a b = runs l i (i + length a) a b (omega arith) ∙ sets_append l i a b

-- ---- what was written, one behind the other

pub wrote_byte : (old : List ℕ) (at b : ℕ) → Wrote old at (b ∷ []) (set old at b) (at + 1)
wrote_byte old at b = record { place = refl; stored = refl }

pub then : {old text text' : List ℕ} {at next next' : ℕ} {a b : List ℕ} → Wrote old at a text next → Wrote text next b text' next' → Wrote old at (a ++ b) text' next'
then {old} {text} {at = at} {a = a} {b = b} v w =
    record {
      place = omega (arith, length-append a b, v.place, w.place);
      stored = w.stored ∙ ap (λ (i : ℕ). sets text i b) v.place ∙ ap (λ (l : List ℕ). sets l (at + length a) b) v.stored ∙ sets_append old at a b;
    }

pub same_length : {old text : List ℕ} {at next : ℕ} {a : List ℕ} → Wrote old at a text next → length text ≡ length old
same_length {old} {at = at} {a = a} w = ap length w.stored ∙ length-sets old at a

-- the room that is left for b behind a
pub room_behind : {old text : List ℕ} {at next : ℕ} {a : List ℕ} (b : List ℕ) → Wrote old at a text next → HasRoom old at (a ++ b) → HasRoom text next b
room_behind {a = a} b w h = omega (arith, length-append a b, same_length w, w.place, h)

-- where the bytes are known by an equation
pub wrote_as : {old text : List ℕ} {at next : ℕ} {a b : List ℕ} → a ≡ b → Wrote old at b text next → Wrote old at a text next
wrote_as {old} {text} {at} {next} e w = subst (λ (l : List ℕ). Wrote old at l text next) (sym e) w

pub room_as : {a b : List ℕ} (text : List ℕ) (at : ℕ) → a ≡ b → HasRoom text at a → HasRoom text at b
room_as text at e h = subst (λ (l : List ℕ). HasRoom text at l) e h

-- the room for a first part
pub room_first : (text : List ℕ) (at : ℕ) (a b : List ℕ) → HasRoom text at (a ++ b) → HasRoom text at a
room_first text at a b h = omega (arith, length-append a b)

-- ---- a text of which `todo` is still to be written, of all that goes behind place `at` of the old one

pub record Writing (old : List ℕ) (at : ℕ) (all : List ℕ) (text : List ℕ) (next : ℕ) (todo : List ℕ) : Type 0 where
  pub same : sets text next todo ≡ sets old at all
  pub place : next + length todo ≡ at + length all
  pub long : length text ≡ length old

pub writing_start : (old : List ℕ) (at : ℕ) (all : List ℕ) → Writing old at all old at all
writing_start old at all = record { same = refl; place = refl; long = refl }

pub writing_next : {old all text text' todo : List ℕ} {at next next' : ℕ} (w rest : List ℕ) → todo ≡ w ++ rest → Writing old at all text next todo → Wrote text next w text' next' → Writing old at all text' next' rest
writing_next {text = text} {next = next} {next' = next'} w rest e g v =
    record {
      same =
          ap (λ (l : List ℕ). sets l next' rest) v.stored ∙ ap (λ (i : ℕ). sets (sets text next w) i rest) v.place ∙ sets_append text next w rest
          ∙ ap (sets text next) (sym e) ∙ g.same;
      place = omega (arith, v.place, g.place, length-append w rest, ap length e);
      long = same_length v ∙ g.long;
    }

pub writing_end : {old all text todo : List ℕ} {at next : ℕ} → todo ≡ [] → Writing old at all text next todo → Wrote old at all text next
writing_end {text = text} {next = next} e g =
    record { place = omega (arith, g.place, ap length e); stored = sym (ap (sets text next) e) ∙ g.same }

pub writing_room : {old all text todo : List ℕ} {at next : ℕ} (w rest : List ℕ) → todo ≡ w ++ rest → Writing old at all text next todo → HasRoom old at all → HasRoom text next w
writing_room w rest e g h = omega (arith, g.place, g.long, length-append w rest, ap length e)
