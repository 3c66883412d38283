-- A number inserted into a list in place, and a hole spliced into a ring: what the library's moves leave. Assumes nothing.
use mathlib.Core.Path.{◌≡◌, refl, sym, ap, ap₂, ◌∙◌}
use mathlib.Core.List.{List, [], ◌∷◌, ◌++◌, append_assoc, append-nil}
use Prim.Native.Nat.{ℕ, ◌+◌, ◌-◌, ◌<◌, ◌≤◌}
use native.Mathlib.Nat.{le_of_eq, not-suc-le-zero}
use native.Mathlib.Numerals.{add-one}
use native.Mathlib.Omega.{arith}
use lib.ListN.{length, get_or, take, drop, set, take-append-drop, drop_of_length-le, length-append, length-drop}
use lib.Seq.{get_or-take, set-set, set_at, take-take, take_at, drop_at, drop-drop, drop-cons, length-take-le}
use borrow.Rule.Slice.PartMut.{mid_of, put_mid}
use Rattle.std.specs.List.{copy_within}
use Rattle.std.proofs.lemmas.List.{take_rest}
use Rattle.std.proofs.lemmas.Slice.{between_is}
use Rattle.lid.specs.Bridges.{splice}
use Rattle.lid.specs.Contract.Steps.{insert_at, but_last}

-- a front that is lent comes back as x
pub front_back : (l x : List ℕ) (e n : ℕ) → e ≡ n → e ≤ length l → length x ≡ length (take e l) → take n (x ++ drop e l) ≡ x
front_back l x e n q h k = take_at x (drop e l) n (k ∙ length-take-le e l h ∙ q)

-- ---- the places from a on are turned by `gap` places: behind the first `gap` stands what stood there, but the last `gap`

module _ (l : List ℕ) (a gap : ℕ) (fits : a + gap ≤ length l) (r : List ℕ)
    (turns : r ≡ drop (length (mid_of a (length l - a) l) - gap) (mid_of a (length l - a) l) ++ take (length (mid_of a (length l - a) l) - gap) (mid_of a (length l - a) l)) where
  part : List ℕ
  part = drop a l

  size : length part ≡ length l - a
  unfolding part
  size = length-drop a l

  plain : r ≡ drop (length l - a - gap) part ++ take (length l - a - gap) part
  unfolding part
  plain = turns ∙ rw (take_rest l a, size) refl

  pub turned_size : length r ≡ length l - a
  turned_size =
      ap length plain
      ∙ length-append (drop (length l - a - gap) part) (take (length l - a - gap) part)
      ∙ omega (arith, size, length-drop (length l - a - gap) part, length-take-le (length l - a - gap) part (omega (arith, size)))

  pub turned_rest : drop gap r ≡ drop a (take (length l - gap) l)
  unfolding part
  turned_rest =
      let n : ℕ = length l - a - gap in
      let same : n ≡ length l - gap - a = omega arith in
      ap (drop gap) plain
      ∙ drop_at (drop n part) (take n part) gap (omega (arith, size, length-drop n part))
      ∙ ap (λ (k : ℕ). take k part) same
      ∙ between_is l a (length l - gap)

-- ---- the places from a on are moved up by `gap` places, over the last: behind the first `gap` stands what stood there, but the last `gap`

module _ (l : List ℕ) (a gap : ℕ) (fits : a + gap ≤ length l) (r : List ℕ)
    (moves : r ≡ copy_within (mid_of a (length l - a) l) 0 (length (mid_of a (length l - a) l) - gap) gap) where
  rest : List ℕ
  rest = drop a l

  rest_size : length rest ≡ length l - a
  unfolding rest
  rest_size = length-drop a l

  laid : r ≡ take gap rest ++ take (length l - a - gap) rest ++ drop (gap + (length l - a - gap)) rest
  unfolding rest
  laid =
      let all : length l - a - gap - 0 ≡ length l - a - gap = omega arith in
      moves ∙ rw (take_rest l a, rest_size) (ap (λ (k : ℕ). take gap rest ++ take k rest ++ drop (gap + k) rest) all)

  nothing_left : drop (gap + (length l - a - gap)) rest ≡ []
  nothing_left = drop_of_length-le rest {i = gap + (length l - a - gap)} (omega (arith, rest_size))

  moved : r ≡ take gap rest ++ take (length l - a - gap) rest
  moved = laid ∙ rw nothing_left (append-nil (take gap rest ++ take (length l - a - gap) rest))

  pub moved_size : length r ≡ length l - a
  moved_size =
      ap length moved
      ∙ length-append (take gap rest) (take (length l - a - gap) rest)
      ∙ omega (arith, rest_size, length-take-le gap rest (omega (arith, rest_size)), length-take-le (length l - a - gap) rest (omega (arith, rest_size)))

  pub moved_rest : drop gap r ≡ drop a (take (length l - gap) l)
  unfolding rest
  moved_rest =
      let n : ℕ = length l - a - gap in
      let same : n ≡ length l - gap - a = omega arith in
      ap (drop gap) moved
      ∙ drop_at (take gap rest) (take n rest) gap (length-take-le gap rest (omega (arith, rest_size)))
      ∙ ap (λ (k : ℕ). take k rest) same
      ∙ between_is l a (length l - gap)

-- what lies behind a rest that is lent
nothing_behind : (l : List ℕ) (a : ℕ) → a ≤ length l → drop (length l - a) (drop a l) ≡ []
nothing_behind l a h = drop-drop (length l - a) a l ∙ drop_of_length-le l {i = a + (length l - a)} (omega arith)

-- a number put at place i, where the rest was turned by one place
module _ (l : List ℕ) (i v : ℕ) (fits : i < length l) (r : List ℕ)
    (turns : r ≡ drop (length (mid_of i (length l - i) l) - 1) (mid_of i (length l - i) l) ++ take (length (mid_of i (length l - i) l) - 1) (mid_of i (length l - i) l)) where
  pub inserted : set (put_mid i (length l - i) l r) i v ≡ insert_at i v (but_last 1 l)
  unfolding insert_at
  inserted =
      let room : i + 1 ≤ length l = omega arith in
      let some : 0 < length r = omega (arith, turned_size l i 1 room r turns) in
      let rest : r ++ drop (length l - i) (drop i l) ≡ get_or r 0 0 ∷ drop 1 r =
      ap₂ ◌++◌ (drop-cons r 0 0 some) (nothing_behind l i (omega arith)) ∙ append-nil (get_or r 0 0 ∷ drop 1 r) in
      ap (λ (q : List ℕ). set (take i l ++ q) i v) rest
      ∙ set_at (take i l) (get_or r 0 0) (drop 1 r) v i (length-take-le i l (omega arith))
      ∙ ap₂ (λ (p q : List ℕ). p ++ v ∷ q) (sym (take-take i (length l - 1) l (omega arith))) (turned_rest l i 1 room r turns)

-- ---- two facts that must-fail edits of `insert` cite, so that only what they store wrongly is in the way of a proof

-- a number stored where it stands already
pub stored_again : (l : List ℕ) (i v : ℕ) → set (set l i v) i v ≡ set l i v
stored_again l i v = set-set l i v v

-- no place lent
pub nothing_lent : (l r : List ℕ) (i : ℕ) → length r ≡ length (mid_of i 0 l) → put_mid i 0 l r ≡ l
nothing_lent l [] i e = take-append-drop i l
nothing_lent l (x ∷ r) i e = absurd (not-suc-le-zero (le_of_eq e))

-- two lists and a number written to the front of a list, one behind the other
room_written : (r front behind : List ℕ) (m n k v : ℕ) → length front ≡ m → length behind ≡ n → k ≡ m + n → k < length r
    → set (put_mid m n (front ++ drop m r) behind) k v ≡ front ++ behind ++ v ∷ drop (k + 1) r
room_written r front behind m n k v e d s fits =
    let past : drop n (drop m (front ++ drop m r)) ≡ get_or r k 0 ∷ drop (k + 1) r =
    ap (drop n) (drop_at front (drop m r) m e)
    ∙ drop-drop n m r
    ∙ ap (λ (i : ℕ). drop i r) (sym s)
    ∙ drop-cons r k 0 fits
    ∙ ap (λ (i : ℕ). get_or r k 0 ∷ drop i r) (sym (add-one k)) in
    ap₂ (λ (p q : List ℕ). set (p ++ (behind ++ q)) k v) (take_at front (drop m r) m e) past
    ∙ ap (λ (q : List ℕ). set q k v) (sym (append_assoc front behind (get_or r k 0 ∷ drop (k + 1) r)))
    ∙ set_at (front ++ behind) (get_or r k 0) (drop (k + 1) r) v k (length-append front behind ∙ omega arith)

-- the hole written behind place t, where the rest was moved up by its places and two more
module _ (l hole : List ℕ) (t b : ℕ) (room : t + length hole + 2 < length l) (low : b < length hole) (r : List ℕ)
    (moves : r ≡ copy_within (mid_of (t + 1) (length l - (t + 1)) l) 0 (length (mid_of (t + 1) (length l - (t + 1)) l) - (length hole + 2)) (length hole + 2))
    (front behind : List ℕ) (first : front ≡ drop b hole) (last : behind ≡ take (b + 1) hole) where
  pub spliced_in : put_mid (t + 1) (length l - (t + 1)) l
      (set (put_mid (length hole - b) (length hole + 1 - (length hole - b)) (front ++ drop (length hole - b) r) behind) (length hole + 1) (get_or l t 0))
      ≡ splice (but_last (length hole + 2) l) hole t b
  unfolding splice
  spliced_in =
      let gap : ℕ = length hole + 2 in
      let fits : t + 1 + gap ≤ length l = omega arith in
      let up : length hole + 1 + 1 ≡ gap = omega arith in
      let written =
      room_written r front behind (length hole - b) (length hole + 1 - (length hole - b)) (length hole + 1) (get_or l t 0) (ap length first ∙ length-drop b hole)
      (ap length last ∙ length-take-le (b + 1) hole (omega arith) ∙ omega arith) (omega arith) (omega (arith, moved_size l (t + 1) gap fits r moves)) in
      ap₂ (λ (p q : List ℕ). take (t + 1) l ++ (p ++ q)) written (nothing_behind l (t + 1) (omega arith))
      ∙ ap (λ (q : List ℕ). take (t + 1) l ++ q) (append-nil _)
      ∙ all front behind (take (t + 1) l) (get_or l t 0) (drop (length hole + 1 + 1) r) first last
      (sym (take-take (t + 1) (length l - gap) l (omega arith)))
      (sym (get_or-take (length l - gap) l t 0 (omega arith)))
      (ap (λ (i : ℕ). drop i r) up ∙ moved_rest l (t + 1) gap fits r moves)
      ∙ simp append_assoc
    where
      few : List ℕ
      few = take (length l - (length hole + 2)) l

      all : (f s head : List ℕ) (v : ℕ) (rest : List ℕ) → f ≡ drop b hole → s ≡ take (b + 1) hole → head ≡ take (t + 1) few → v ≡ get_or few t 0 → rest ≡ drop (t + 1) few
          → head ++ (f ++ s ++ v ∷ rest) ≡ take (t + 1) few ++ (drop b hole ++ take (b + 1) hole ++ (get_or few t 0 ∷ drop (t + 1) few))
      all f s head v rest a b c d e = cc
