-- Bytes, words and numbers written one behind the other. Assumes nothing.
use mathlib.Core.Path.{◌≡◌, sym, ap, ◌∙◌}
use mathlib.Core.List.{List, ◌++◌, append_assoc}
use Prim.Native.Nat.{ℕ, ◌+◌, ◌≤◌, ◌<◌, ◌^◌}
use native.Mathlib.Nat.{lt_of_lt_of_le}
use native.Mathlib.Omega.{arith}
use lib.Dec.{lit≤}
use lib.ListN.{length, take, drop}
use lib.Seq.{drop-drop, sets, sets-eq}
use borrow.Rule.Slice.PartMut.{put_mid, post_of}
use Rattle.decimal.specs.Decimals.{decimal}
use Rattle.decimal.proofs.Digits.{size_most}
use Rattle.decimal.proofs.Texts.{then, same_length, wrote_as}
use Rattle.quote_lines.specs.declared.Writer.{Writer}
use Rattle.quote_lines.specs.Contract.Writers.{RoomFor, Writes}

-- a u32 has at most ten digits
pub ten_digits : (n : ℕ) → n < 2 ^ 32 → length (decimal n) ≤ 10
ten_digits n h = size_most 9 n (lt_of_lt_of_le h (lit≤ tt))

module _ {old new : Writer} {bytes : List ℕ} (w : Writes old bytes new) where
  -- the room that is left
  pub room_left : (n : ℕ) → RoomFor old (length bytes + n) → RoomFor new n
  room_left n h = omega (arith, same_length w.wrote, w.wrote.place)

  pub written_then : {last : Writer} {more : List ℕ} → Writes new more last → Writes old (bytes ++ more) last
  written_then v = record { wrote = then w.wrote v.wrote; loan = v.loan ∙ w.loan }

  -- the same, where only a bound of the length is known
  pub room_behind : (m n : ℕ) → new.at ≤ old.at + m → RoomFor old (m + n) → RoomFor new n
  room_behind m n k h = omega (arith, same_length w.wrote)

-- a word stored over a part of the text
pub word_stored : (old word part : List ℕ) (at k : ℕ) → at + length word ≤ length old → k ≡ length word → part ≡ word → put_mid at k old part ≡ sets old at word
word_stored old word part at k h size e =
    ap (λ (l : List ℕ). take at old ++ (l ++ post_of at k old)) e ∙ ap (λ (n : ℕ). take at old ++ (word ++ post_of at n old)) size
    ∙ ap (λ (l : List ℕ). take at old ++ (word ++ l)) (drop-drop (length word) at old)
    ∙ sym (append_assoc (take at old) word (drop (at + length word) old)) ∙ sym (sets-eq word old at h)

-- where the bytes are known by an equation
pub writes_as : {old new : Writer} {a b : List ℕ} → a ≡ b → Writes old b new → Writes old a new
writes_as e w = record { wrote = wrote_as e w.wrote; loan = w.loan }
