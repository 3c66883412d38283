-- A ring and what is held beside it, where a corner is cut off. Assumes nothing.
use mathlib.Core.Path.{◌≡◌, refl, sym, ap, ◌∙◌}
use mathlib.Core.Bool.{Bool, true, false, cond}
use mathlib.Core.List.{List, [], ◌∷◌, ◌++◌, map}
use Prim.Native.Nat.{ℕ, zero, suc, ◌+◌, ◌-◌, ◌<◌, ◌≤◌}
use native.Mathlib.Numerals.{add-one}
use native.Mathlib.Omega.{arith}
use lib.ListN.{length, get_or, take, drop, set, replicate, length-set, length-replicate, drop_of_length-le, get_or-eq_default}
use lib.Seq.{drop-cons}
use lib.Dec.{eqb, ltb}
use lib.Ieee.{Float}
use borrow.Author.Tests.{eqb-true, ltb-true, ltb-false, lt-leb}
use Rattle.std.specs.Prelude.{Option, None, Some}
use Rattle.lists.specs.Loops.{first, remove_at}
use Rattle.lid.specs.declared.Flat.{Flat}
use Rattle.lid.specs.declared.RingPlace.{RingPlace}
use Rattle.lid.specs.declared.Corners.{Corners}
use Rattle.lid.specs.declared.Cut.{Cut}
use Rattle.lid.specs.declared.Mark.TheVariants.{Ear, Dropped}
use Rattle.lid.specs.Marks.{mark_number}
use Rattle.lid.specs.Rings.{place_of, corner}
use Rattle.lid.specs.Clipping.{is_ear, is_straight, cut_straight, cut_ear, clip_step}
use Rattle.lid.specs.Lid.{ears_of}
use Rattle.lid.specs.Contract.Written.{log_with, triangles_with}
use Rattle.lid.specs.Contract.Steps.{corners_around, Cuts}
use Rattle.lid.proofs.Facts.{remove_at_size}
use Rattle.lists.proofs.Buffers.{fill_next, fill_end}
use Rattle.lid_place.proofs.RemoveLaws.{removed_behind}
use Rattle.lid_clip_ear.specs.Contract.Ears.{Known, searched}
use Rattle.lid_clip_ear.specs.Contract.Laid.{InRingOrder}
use Rattle.lid_clip_ear.specs.Contract.Notes.{NoneFrom, anew, without}
use Rattle.lid_clip_ear.proofs.NoteLaws.{forgotten_behind, without_size, none_without}
use Rattle.lid_clip_ear.proofs.EarLaws.{known_none, known_cut, searched_kept}
use Rattle.lid_clip_ear.proofs.TestLaws.{order_long}
use Rattle.lid_clip.specs.Contract.StepNotes.{step_notes}
use Rattle.lid_clip.specs.Contract.Held.{Held, known_after, entry_of, Takes}
use Rattle.lid_clip.proofs.ClipRun.{step_over}

-- ---- the coordinates

map_remove : {A B : Type 0} (f : A → B) (i : ℕ) (l : List A) → remove_at i (map f l) ≡ map f (remove_at i l)
unfolding remove_at
map_remove f i [] = refl
map_remove f zero (x ∷ xs) = refl
map_remove {A} {B} f (suc i) (x ∷ xs) = ap (λ (r : List B). f x ∷ r) (map_remove f i xs)

order_removed : (fs : List Flat) (ring : List ℕ) (rxs rys : List Float) (i : ℕ) → InRingOrder fs ring rxs rys → InRingOrder fs (remove_at i ring) (remove_at i rxs) (remove_at i rys)
order_removed fs ring rxs rys i o =
    record {
      first_coordinates = ap (remove_at i) o.first_coordinates ∙ map_remove (λ p. (corner fs p).x) i ring;
      second_coordinates = ap (remove_at i) o.second_coordinates ∙ map_remove (λ p. (corner fs p).y) i ring;
    }

-- the loop of `lay_out`: the places below k are done
pub record Laying (f : ℕ → Float) (ring : List ℕ) (old new : List Float) (k : ℕ) : Type 0 where
  pub long : length new ≡ length old
  pub rest : take k new ++ map f (drop k ring) ≡ map f ring

module _ (f : ℕ → Float) (ring : List ℕ) (old : List Float) where
  pub laying_start : Laying f ring old old 0
  laying_start = record { long = refl; rest = refl }

  pub laying_next : (new : List Float) (k : ℕ) (v : Float) → k < length ring → k < length new → v ≡ f (get_or ring k 0) → Laying f ring old new k → Laying f ring old (set new k v) (k + 1)
  laying_next new k v h g e l =
      let one : drop k ring ≡ get_or ring k 0 ∷ drop (k + 1) ring = drop-cons ring k 0 h ∙ ap (λ (m : ℕ). get_or ring k 0 ∷ drop m ring) (sym (add-one k)) in
      record {
        long = length-set new k v ∙ l.long;
        rest = fill_next new k v (map f (drop (k + 1) ring)) (map f ring) g (rw e (rw one at l.rest));
      }

  pub laying_end : (new : List Float) (k : ℕ) → length ring ≤ k → length old ≡ length ring → Laying f ring old new k → new ≡ map f ring
  laying_end new k h g l =
      let none : drop k ring ≡ [] = drop_of_length-le ring {i = k} h in
      fill_end new k (map f ring) (omega (arith, l.long)) (rw none at l.rest)

-- ---- no notes at the start

blank : (m k : ℕ) → ◌≡◌ {A = ℕ} (get_or (replicate m 0) k 0) 0
blank zero k = refl
blank (suc m) zero = refl
blank (suc m) (suc k) = blank m k

pub held_start : (fs : List Flat) (ring : List ℕ) (rxs rys : List Float) (why : List ℕ) (m : ℕ) → InRingOrder fs ring rxs rys → why ≡ replicate m 0 → m ≡ length ring → Held fs ring rxs rys why 0
held_start fs ring rxs rys why m order e long =
    let none : NoneFrom 0 why = λ k g. ap (λ (w : List ℕ). get_or w k 0) e ∙ blank m k in
    record { in_order = order; long = ap length e ∙ length-replicate m 0 ∙ long; notes = known_none fs ring why none; none = none; near = omega arith }

-- ---- the notes that a step leaves

module _ (fs : List Flat) (ring : List ℕ) (cut : Cut) (ear : mark_number cut.mark ≡ 1) where
  not_straight : (g : Option ℕ) → cut_straight g ≡ Some cut → ⊥
  unfolding cut_straight
  not_straight (Some i) e =
      let z : (record { mark = Dropped; place = place_of i }) ≡ cut = cc in
      let two : 2 ≡ mark_number cut.mark = ap (λ (c : Cut). mark_number c.mark) z in
      omega (arith, two, ear)
  not_straight None e = let z : ◌≡◌ {A = ℕ} 0 1 = cc in omega arith

  ear_cut : (f : Option ℕ) → cut_ear fs ring f ≡ Some cut → f ≡ Some cut.place.0
  unfolding cut_ear
  ear_cut (Some i) e = let z : (record { mark = Ear; place = place_of i }) ≡ cut = cc in ap (λ (c : Cut). Some c.place.0) z
  ear_cut None e = absurd (not_straight (first (is_straight fs ring) (length ring) 0) e)

  -- an ear is cut off where the search found one
  ear_found : clip_step fs ring ≡ Some cut → first (is_ear fs ring) (length ring) 0 ≡ Some cut.place.0
  unfolding clip_step
  ear_found e = ear_cut (first (is_ear fs ring) (length ring) 0) (rw (lt-leb (length ring) 3 (step_over fs ring cut e)) at e)

module _ (fs : List Flat) (ring : List ℕ) (rxs rys : List Float) (why : List ℕ) (known : ℕ) (held : Held fs ring rxs rys why known) (cut : Cut)
    (step : clip_step fs ring ≡ Some cut) (why₁ : List ℕ) (now-known : Known fs ring why₁) (now-notes : why₁ ≡ step_notes fs ring why) (now-long : length why₁ ≡ length ring) where
  abbrev mark : ℕ
  mark = mark_number cut.mark

  abbrev p : RingPlace
  p = cut.place

  ear_none : mark ≡ 1 → (k : ℕ) → p.0 ≤ k → known ≤ k → get_or why₁ k 0 ≡ 0
  unfolding step_notes
  ear_none one k g h =
      let notes : why₁ ≡ searched fs ring (length ring) 0 why = rw (lt-leb (length ring) 3 (step_over fs ring cut step)) at now-notes in
      ap (λ (w : List ℕ). get_or w k 0) notes ∙ searched_kept fs ring (length ring) 0 why (omega arith) held.long held.notes p.0 (ear_found fs ring cut one step) k g ∙ held.none k h

  pub none_after : (m : ℕ) → m ≡ known_after (length ring) known mark p.0 → NoneFrom m why₁
  unfolding known_after
  none_after m e k g = go (eqb mark 1) refl (ltb p.0 known) refl
    where
      at_least : (b : Bool) → eqb mark 1 ≡ b → (s : Bool) → ltb p.0 known ≡ s → m ≡ cond b (cond s known (p.0 + 1)) (length ring)
      at_least b t s u = e ∙ rw (t, u)

      go : (b : Bool) → eqb mark 1 ≡ b → (s : Bool) → ltb p.0 known ≡ s → get_or why₁ k 0 ≡ 0
      go true t true u = let a : m ≡ known = at_least true t true u in ear_none (eqb-true mark 1 t) k (omega (arith, ltb-true p.0 known u)) (omega arith)
      go true t false u = let a : m ≡ p.0 + 1 = at_least true t false u in ear_none (eqb-true mark 1 t) k (omega arith) (omega (arith, ltb-false p.0 known u))
      go false t s u = let a : m ≡ length ring = at_least false t s u in get_or-eq_default why₁ 0 (omega arith)

  -- where the corner is taken out of all
  pub held_cut : (m : ℕ) → m ≡ known_after (length ring) known mark p.0 → p.0 < m → m ≤ length ring → (ring' : List ℕ) (rxs' rys' : List Float) (why' : List ℕ)
      → ring' ≡ take 1 ring ++ remove_at p.0 ring → rxs' ≡ take 1 rxs ++ remove_at p.0 rxs → rys' ≡ take 1 rys ++ remove_at p.0 rys
      → why' ≡ take 1 (anew p.0 why₁) ++ without p.0 why₁ → Held fs (drop 1 ring') (drop 1 rxs') (drop 1 rys') (drop 1 why') (m - 1)
  held_cut m e below near ring' rxs' rys' why' er eu ev ew =
      let i = p.0 in
      let long = order_long fs ring rxs rys held.in_order in
      let size = remove_at_size ring i (omega arith) in
      rw (removed_behind i ring ring' (omega arith) er, removed_behind i rxs rxs' (omega (arith, long.0)) eu, removed_behind i rys rys' (omega (arith, long.1)) ev, forgotten_behind i why₁ why' (omega arith) ew)
      (record {
        in_order = order_removed fs ring rxs rys i held.in_order;
        long = omega (arith, size, without_size i why₁ (omega arith));
        notes = known_cut fs ring why₁ i (omega arith) now-long now-known;
        none = none_without i m why₁ below (omega arith) (none_after m e);
        near = omega (arith, size);
      })

  pub takes_cut : (m : ℕ) → m ≡ known_after (length ring) known mark p.0 → p.0 < m → m ≤ length ring → (ring' : List ℕ) (rxs' rys' : List Float) (why' : List ℕ)
      → ring' ≡ take 1 ring ++ remove_at p.0 ring → rxs' ≡ take 1 rxs ++ remove_at p.0 rxs → rys' ≡ take 1 rys ++ remove_at p.0 rys
      → why' ≡ take 1 (anew p.0 why₁) ++ without p.0 why₁
      → (t : Corners) → t ≡ corners_around ring p.0 → (log log' : List ℕ) (n : ℕ) (triangles triangles' : List ℕ) (count r : ℕ)
      → (log' ≡ log_with log n (entry_of mark t ∷ [])) × (triangles' ≡ triangles_with triangles count (ears_of (entry_of mark t ∷ []))) × (r ≡ count + length (ears_of (entry_of mark t ∷ [])))
      → Takes fs (clip_step fs ring) ring ring' rxs' rys' why' log log' n triangles triangles' count (Some (record { known = m - 1; triangles = r }))
  takes_cut m e below near ring' rxs' rys' why' er eu ev ew t et log log' n triangles triangles' count r wrote =
      let did : Cuts mark ring p.0 ring' log log' n triangles triangles' count r =
      record { removed = removed_behind p.0 ring ring' (omega arith) er; written = rw et at wrote.0; ears = rw et at wrote.1; offered = rw et at wrote.2 } in
      rw step (did, held_cut m e below near ring' rxs' rys' why' er eu ev ew)

pub takes_none : (fs : List Flat) (ring : List ℕ) (rxs rys : List Float) (why log : List ℕ) (n : ℕ) (triangles : List ℕ) (count : ℕ) → clip_step fs ring ≡ None
    → Takes fs (clip_step fs ring) ring ring rxs rys why log log n triangles triangles count None
takes_none fs ring rxs rys why log n triangles count e = rw e (refl, refl, refl)
