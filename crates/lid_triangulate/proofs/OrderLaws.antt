-- The holes that the code orders by their numbers are those of the definition, in its order. Assumes nothing.
use mathlib.Core.Path.{◌≡◌, refl, sym, ap, ap₂, ◌∙◌}
use mathlib.Core.Bool.{Bool, true, false, ◌||◌, cond}
use mathlib.Core.List.{List, [], ◌∷◌, map}
use Prim.Native.Nat.{ℕ, zero, suc, ◌+◌, ◌<◌, ◌≤◌}
use native.Mathlib.Nat.{zero-add}
use native.Mathlib.Numerals.{add-one}
use native.Mathlib.Omega.{arith}
use lib.ListN.{length, get_or, drop, drop_of_length-le}
use lib.Seq.{drop-cons}
use lib.Dec.{ltb}
use lib.Ieee.{Float}
use borrow.Author.Tests.{ltb-false}
use Rattle.lists.specs.Each.{Each}
use Rattle.lists.specs.Loops.{loop, fold, list, sum_of}
use Rattle.lists.proofs.Lists.{get_d_list, length_list}
use Rattle.lists.proofs.Loops.{either, loop-keeps₀}
use Rattle.float.specs.Number.{zerof}
use Rattle.float.specs.Signs.{total_less}
use Rattle.lid.specs.declared.Flat.{Flat}
use Rattle.lid.specs.Log.{Entry, entry}
use Rattle.lid.specs.Rings.{Hole, too_small, right, rings_from, holes_from, skipped_from, insert, in_order}
use Rattle.lid_hole.specs.Contract.Holes.{hole_start, hole_corners, hole_at, rights_of, small_of, skips, Joinable}
use Rattle.lid_hole.specs.Contract.Order.{insert_by, order_step, order_of}
use Rattle.lid.proofs.Facts.{adds, in_order_sum, holes_from_sum}
use Rattle.lid_hole.proofs.HoleLaws.{start_first, start_next, count_low, hole_size}

insert_by_each : (P : ℕ → Type 0) (rights : List Float) (h : ℕ) (order : List ℕ) → P h → Each P order → Each P (insert_by rights h order)
unfolding insert_by
insert_by_each P rights h [] p q = (p, tt)
insert_by_each P rights h (g ∷ gs) p q =
    either (Each P) (total_less (get_or rights g zerof) (get_or rights h zerof)) {x = h ∷ g ∷ gs} {y = g ∷ insert_by rights h gs} (p, q) (q.0, insert_by_each P rights h gs p q.1)

-- holes of a number below n that are not skipped
order_each : (P : ℕ → Type 0) (rights : List Float) (small : List Bool) → ((g : ℕ) → g < length small → get_or small g false ≡ false → P g) → Each P (order_of rights small)
unfolding order_of
order_each P rights small h =
    loop-keeps₀ (Each P) (order_step rights small) (length small) [] (λ g low order q. go g low (get_or small g false) refl order q) tt
  where
    go : (g : ℕ) → g < length small → (b : Bool) → get_or small g false ≡ b → (order : List ℕ) → Each P order → Each P (cond b order (insert_by rights g order))
    go g low true e order q = q
    go g low false e order q = insert_by_each P rights g order (h g low e) q

not_short : (n : ℕ) (b : Bool) → (ltb n 3 || b) ≡ false → 3 ≤ n
not_short n b e = ltb-false n 3 (first (ltb n 3) b e)
  where
    first : (a b : Bool) → (a || b) ≡ false → a ≡ false
    first false b e = refl
    first true b e = e

sum_map : (f : Hole → ℕ) (k : ℕ → ℕ) (hole : ℕ → Hole) → ((g : ℕ) → f (hole g) ≡ k g) → (l : List ℕ) → sum_of f (map hole l) ≡ sum_of k l
unfolding sum_of
sum_map f k hole h [] = refl
sum_map f k hole h (g ∷ l) = ap₂ ◌+◌ (h g) (sum_map f k hole h l)

module _ (fs : List Flat) (outer : ℕ) (counts : List ℕ) where
  abbrev hole : ℕ → Hole
  hole = hole_at fs outer counts

  abbrev rights : List Float
  rights = rights_of fs outer counts

  abbrev small : List Bool
  small = small_of fs outer counts

  right_is : (g : ℕ) → g < length counts → get_or rights g zerof ≡ right fs (hole g).ring
  right_is g h = get_d_list (λ g. right fs (hole g).ring) (length counts) 0 g zerof h ∙ ap (λ (i : ℕ). right fs (hole i).ring) (zero-add g)

  small_is : (g : ℕ) → g < length counts → get_or small g false ≡ too_small fs (hole_corners outer counts g)
  small_is g h =
      get_d_list (λ g. too_small fs (hole_corners outer counts g)) (length counts) 0 g false h ∙ ap (λ (i : ℕ). too_small fs (hole_corners outer counts i)) (zero-add g)

  insert_map : (h : ℕ) → h < length counts → (order : List ℕ) → Each (λ g. g < length counts) order → map hole (insert_by rights h order) ≡ insert fs (hole h) (map hole order)
  unfolding insert_by insert
  insert_map h low [] q = refl
  insert_map h low (g ∷ gs) q =
      rw (right_is g q.0, right_is h low) (go (total_less (right fs (hole g).ring) (right fs (hole h).ring)) (insert_by rights h gs) (insert_map h low gs q.1))
    where
      go : (b : Bool) (later : List ℕ) → map hole later ≡ insert fs (hole h) (map hole gs)
          → map hole (cond b (h ∷ g ∷ gs) (g ∷ later)) ≡ cond b (hole h ∷ hole g ∷ map hole gs) (hole g ∷ insert fs (hole h) (map hole gs))
      go true later e = refl
      go false later e = ap (λ (l : List Hole). hole g ∷ l) e

  rings_next : (k : ℕ) → k < length counts
      → rings_from (hole_start outer counts k) (drop k counts) ≡ hole_corners outer counts k ∷ rings_from (hole_start outer counts (suc k)) (drop (suc k) counts)
  unfolding rings_from hole_corners
  rings_next k h =
      let e : hole_start outer counts (suc k) ≡ hole_start outer counts k + get_or counts k 0 = ap (hole_start outer counts) (sym (add-one k)) ∙ start_next outer counts k h in
      rw (drop-cons counts k 0, e)

  rings_none : (k : ℕ) → length counts ≤ k → rings_from (hole_start outer counts k) (drop k counts) ≡ []
  unfolding rings_from
  rings_none k h = rw (drop_of_length-le counts h)

  order_from : (n k : ℕ) → k + n ≡ length counts → (order : List ℕ) → Each (λ g. g < length counts) order
      → map hole (loop (order_step rights small) n k order) ≡ fold (λ sorted h. insert fs h sorted) (map hole order) (holes_from fs k (rings_from (hole_start outer counts k) (drop k counts)))
  unfolding loop fold holes_from
  order_from zero k e order q = rw (rings_none k (omega arith))
  order_from (suc n) k e order q =
      rw (rings_next k (omega arith), small_is k (omega arith)) (go (too_small fs (hole_corners outer counts k)) (λ o p. order_from n (suc k) (omega arith) o p))
    where
      go : (b : Bool) → ((o : List ℕ) → Each (λ g. g < length counts) o → map hole (loop (order_step rights small) n (suc k) o)
          ≡ fold (λ sorted h. insert fs h sorted) (map hole o) (holes_from fs (suc k) (rings_from (hole_start outer counts (suc k)) (drop (suc k) counts))))
          → map hole (loop (order_step rights small) n (suc k) (cond b order (insert_by rights k order)))
          ≡ fold (λ sorted h. insert fs h sorted) (map hole order) (cond b (holes_from fs (suc k) (rings_from (hole_start outer counts (suc k)) (drop (suc k) counts))) (hole k ∷ holes_from fs (suc k) (rings_from (hole_start outer counts (suc k)) (drop (suc k) counts))))
      go true later = later order q
      go false later =
          later (insert_by rights k order) (insert_by_each (λ g. g < length counts) rights k order (omega arith) q)
          ∙ ap (λ (l : List Hole). fold (λ sorted h. insert fs h sorted) l (holes_from fs (suc k) (rings_from (hole_start outer counts (suc k)) (drop (suc k) counts)))) (insert_map k (omega arith) order q)

  pub order_is : map hole (order_of rights small) ≡ in_order fs (holes_from fs 0 (rings_from outer counts))
  unfolding order_of in_order
  order_is =
      ap (λ (n : ℕ). map hole (loop (order_step rights small) n 0 [])) (length_list (λ g. too_small fs (hole_corners outer counts g)) (length counts) 0)
      ∙ order_from (length counts) 0 (zero-add (length counts)) [] tt
      ∙ ap (λ (s : ℕ). fold (λ sorted h. insert fs h sorted) [] (holes_from fs 0 (rings_from s counts))) (start_first outer counts)

  skips_from : (n k : ℕ) → k + n ≡ length counts
      → skips k (list (λ g. too_small fs (hole_corners outer counts g)) n k) ≡ skipped_from fs k (rings_from (hole_start outer counts k) (drop k counts))
  unfolding skips list skipped_from
  skips_from zero k e = rw (rings_none k (omega arith))
  skips_from (suc n) k e = rw (rings_next k (omega arith)) (go (too_small fs (hole_corners outer counts k)) (skips_from n (suc k) (omega arith)))
    where
      go : (b : Bool) → skips (suc k) (list (λ g. too_small fs (hole_corners outer counts g)) n (suc k)) ≡ skipped_from fs (suc k) (rings_from (hole_start outer counts (suc k)) (drop (suc k) counts))
          → cond b (entry 6 k 0 0 ∷ skips (suc k) (list (λ g. too_small fs (hole_corners outer counts g)) n (suc k))) (skips (suc k) (list (λ g. too_small fs (hole_corners outer counts g)) n (suc k)))
          ≡ cond b (entry 6 k 0 0 ∷ skipped_from fs (suc k) (rings_from (hole_start outer counts (suc k)) (drop (suc k) counts))) (skipped_from fs (suc k) (rings_from (hole_start outer counts (suc k)) (drop (suc k) counts)))
      go true h = ap (λ (l : List Entry). entry 6 k 0 0 ∷ l) h
      go false h = h

  pub skips_are : skips 0 small ≡ skipped_from fs 0 (rings_from outer counts)
  skips_are = skips_from (length counts) 0 (zero-add (length counts)) ∙ ap (λ (s : ℕ). skipped_from fs 0 (rings_from s counts)) (start_first outer counts)

  pub order_joinable : (room : ℕ) → sum_of (λ n. n) counts ≤ room → Each (Joinable counts room) (order_of rights small)
  unfolding too_small hole_corners
  order_joinable room fits = order_each (Joinable counts room) rights small (λ g low e. fit g (omega (arith, long)) e)
    where
      long : length small ≡ length counts
      long = length_list (λ g. too_small fs (hole_corners outer counts g)) (length counts) 0

      fit : (g : ℕ) → g < length counts → get_or small g false ≡ false → Joinable counts room g
      fit g low e =
          let ring = hole_corners outer counts g in
          let many : 3 ≤ length ring = not_short (length ring) _ (sym (small_is g low) ∙ e) in
          (low, omega (arith, many, length_list (λ i. i) (get_or counts g 0) (hole_start outer counts g)), omega (arith, fits, count_low outer counts g low))

  -- what the holes of an order add to the ring
  pub order_adds : (order : List ℕ) → map hole order ≡ in_order fs (holes_from fs 0 (rings_from outer counts)) → sum_of (λ g. get_or counts g 0 + 2) order ≤ sum_of (λ n. n + 2) counts
  order_adds order e =
      let same = sum_map adds (λ g. get_or counts g 0 + 2) hole (λ g. ap (λ (n : ℕ). n + 2) (hole_size fs outer counts g)) order in
      omega (arith, same, ap (sum_of adds) e, in_order_sum fs adds (holes_from fs 0 (rings_from outer counts)), holes_from_sum fs 0 outer counts)

pub sum_two : (l : List ℕ) → sum_of (λ n. n + 2) l ≡ sum_of (λ n. n) l + (length l + length l)
unfolding sum_of
sum_two [] = refl
sum_two (n ∷ l) = omega (arith, sum_two l)
