-- The word in what was read of the input is the word at the input's start. Assumes nothing.
use Rattle.std.proofs.Common.{◌≡◌, ℕ, ◌≤◌, ◌<◌, List, [], ◌++◌, Option, None, Some, IfSome, arith, length, take, sym, ap, ◌∙◌, le-ltb, lt-ltb}
use Rattle.std.specs.Io.KnownBytes.{Consumes, IsAtEnd}
use mathlib.Core.Logic.{⊎_elim}
use Rattle.std.proofs.lemmas.Bool.{cases_lt}
use lib.ListN.{get_or-append, length-append}
use Rattle.std.proofs.lemmas.List.{append-nil, take_all}
use Rattle.scene_field.specs.Fields.{u16_at, u32_at}
use Rattle.test_words.specs.Words.{word_of}

in_front : (a b : List ℕ) → 4 ≤ length a → u32_at a 0 ≡ u32_at (a ++ b) 0
unfolding u16_at u32_at
in_front a b h =
    rw (get_or-append a b 0 0 (omega arith), get_or-append a b 0 1 (omega arith), get_or-append a b 0 2 (omega arith), get_or-append a b 0 3 (omega arith))

module _ (four : List ℕ) (n : ℕ) (long : length four ≡ 4) (fits : n ≡ length (take n four)) where
  short : (xs : List ℕ) → n < 4 → xs ≡ take n four ++ [] → word_of four n ≡ word_of xs (length xs)
  unfolding word_of
  short xs h e =
      let few : length xs < 4 = omega (arith, ap length e, ap length (append-nil (take n four))) in
      rw (lt-ltb n 4 h, lt-ltb (length xs) 4 few)

  whole : (xs ys : List ℕ) → 4 ≤ n → n ≤ 4 → xs ≡ take n four ++ ys → word_of four n ≡ word_of xs (length xs)
  unfolding word_of
  whole xs ys h k e =
      let all : xs ≡ four ++ ys = e ∙ ap (λ l. l ++ ys) (take_all n four (omega arith)) in
      let many : 4 ≤ length xs = omega (arith, ap length all, length-append four ys) in
      rw (le-ltb n 4 h, le-ltb (length xs) 4 many) (ap Some (in_front four ys (omega arith) ∙ ap (λ l. u32_at l 0) (sym all)))

  pub known_word : (old new : Option (List ℕ)) → n ≤ 4 → Consumes old new (take n four) → (n < 4 → IsAtEnd new) → IfSome old (λ bytes. word_of four n ≡ word_of bytes (length bytes))
  known_word None new k c e = tt
  known_word (Some xs) None k c e = absurd c
  known_word (Some xs) (Some ys) k c e =
      ⊎_elim (λ (h : n < 4). short xs h (c ∙ ap (λ l. take n four ++ l) (e h))) (λ (h : 4 ≤ n). whole xs ys h k c) (cases_lt n 4)
