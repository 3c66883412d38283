-- A number's digits stored from the end, two at a time. Assumes nothing.
use mathlib.Core.Path.{◌≡◌, refl, sym, ap, ◌∙◌}
use mathlib.Core.List.{List, [], ◌∷◌}
use Prim.Native.Nat.{ℕ, suc, ◌+◌, ◌-◌, ◌/◌, ◌%◌, ◌≤◌, ◌<◌}
use native.Mathlib.Numerals.{add-one}
use native.Mathlib.Omega.{arith}
use lib.IntN.{ℤ, pos, negsuc, nat_abs}
use lib.ListN.{length, set, length-set}
use lib.Seq.{sets, set-set, length-sets}
use Rattle.decimal.specs.Decimals.{decimal}
use Rattle.decimal.specs.Contract.Decimals.{integer}
use Rattle.decimal.specs.Contract.Texts.{HasRoom, Wrote}
use Rattle.decimal.proofs.Digits.{decimal_one, decimal_two, decimal_two_more, size_two_more, some_digit}
use Rattle.decimal.proofs.Texts.{end_first}

pub pair_stored : (l : List ℕ) (i two x y : ℕ) → x ≡ 48 + two / 10 → y ≡ 48 + two % 10 → set (set l i x) (i + 1) y ≡ sets l i ((48 + two / 10) ∷ (48 + two % 10) ∷ [])
pair_stored l i two x y e f = rw (e, f, add-one)

module _ (old : List ℕ) (at n : ℕ) where
  pub short_one : (x : ℕ) → n < 10 → x ≡ 48 + n → Wrote old at (decimal n) (set old at x) (at + length (decimal n))
  short_one x h e = record { place = refl; stored = rw (e, decimal_one n h) }

  pub short_two : {text : List ℕ} → 10 ≤ n → n < 100 → text ≡ sets old at ((48 + n / 10) ∷ (48 + n % 10) ∷ []) → Wrote old at (decimal n) text (at + length (decimal n))
  short_two h k e = record { place = refl; stored = e ∙ ap (sets old at) (sym (decimal_two n h k)) }

  -- the digits of `rest` are still to be stored, before place i
  pub record Ending (text : List ℕ) (i rest : ℕ) : Type 0 where
    pub place : i ≡ at + length (decimal rest)
    pub same : sets text at (decimal rest) ≡ sets old at (decimal n)
    pub long : length text ≡ length old
    pub within : i ≤ length old

  pub ending_start : (next : ℕ) → HasRoom old at (decimal n) → next ≡ length (decimal n) → Ending old (at + next) n
  ending_start next h e = record { place = ap (λ (k : ℕ). at + k) e; same = refl; long = refl; within = omega arith }

  pub ending_next : (text : List ℕ) (i rest : ℕ) {text' : List ℕ} → 100 ≤ rest → text' ≡ sets text (i - 2) ((48 + rest % 100 / 10) ∷ (48 + rest % 100 % 10) ∷ []) → Ending text i rest → Ending text' (i - 2) (rest / 100)
  ending_next text i rest h e g =
      let two = (48 + rest % 100 / 10) ∷ (48 + rest % 100 % 10) ∷ [] in
      let j : i - 2 ≡ at + length (decimal (rest / 100)) = omega (arith, size_two_more rest h, g.place) in
      record {
        place = j;
        same =
            ap (λ (l : List ℕ). sets l at (decimal (rest / 100))) (e ∙ ap (λ (k : ℕ). sets text k two) j) ∙ end_first text at (decimal (rest / 100)) two
            ∙ ap (sets text at) (sym (decimal_two_more rest h)) ∙ g.same;
        long = ap length e ∙ length-sets text (i - 2) two ∙ g.long;
        within = omega (arith, g.within);
      }

  -- two more places stand before i
  pub two_before : (text : List ℕ) (i rest : ℕ) → 100 ≤ rest → Ending text i rest → (2 ≤ i) × (i ≤ length text)
  two_before text i rest h g = (omega (arith, size_two_more rest h, g.place), omega (arith, g.within, g.long))

  pub ending_room : (text : List ℕ) (i rest : ℕ) → Ending text i rest → HasRoom text at (decimal rest)
  ending_room text i rest g = omega (arith, g.place, g.within, g.long)

  pub ending_end : (text : List ℕ) (i rest next : ℕ) (last : List ℕ) → next ≡ length (decimal n) → Ending text i rest → Wrote text at (decimal rest) last (at + length (decimal rest)) → Wrote old at (decimal n) last (at + next)
  ending_end text i rest next last e g w = record { place = ap (λ (k : ℕ). at + k) e; stored = w.stored ∙ g.same }

-- ---- a sign, and the digits behind it or over it

overwritten : (l : List ℕ) (i x : ℕ) (w : List ℕ) → 1 ≤ length w → sets (set l i x) i w ≡ sets l i w
overwritten l i x [] h = absurd (omega arith)
overwritten l i x (y ∷ w) h = ap (λ (m : List ℕ). sets m (suc i) w) (set-set l i x y)

pub sign_room : (x : ℤ) (old : List ℕ) (at size : ℕ) → size + length (decimal (nat_abs x)) ≡ length (integer x) → HasRoom old at (integer x) → HasRoom (set old at 45) (at + size) (decimal (nat_abs x))
sign_room x old at size e h = omega (arith, length-set old at 45)

pub sign_place : (x : ℤ) → 1 ≤ length (integer x)
unfolding integer
sign_place (pos n) = some_digit n
sign_place (negsuc n) = omega arith

pub signed : (x : ℤ) (old text : List ℕ) (at size next : ℕ) → size + length (decimal (nat_abs x)) ≡ length (integer x) → Wrote (set old at 45) (at + size) (decimal (nat_abs x)) text next → Wrote old at (integer x) text next
unfolding integer
signed (pos n) old text at size next e w =
    let z : at + size ≡ at = omega arith in
    record {
      place = omega (arith, w.place);
      stored = w.stored ∙ ap (λ (i : ℕ). sets (set old at 45) i (decimal n)) z ∙ overwritten old at 45 (decimal n) (some_digit n);
    }
signed (negsuc n) old text at size next e w =
    let z : at + size ≡ suc at = omega arith in
    record { place = omega (arith, w.place); stored = w.stored ∙ ap (λ (i : ℕ). sets (set old at 45) i (decimal (suc n))) z }
