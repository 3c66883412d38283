-- The loop that writes a line for each object: its invariant at the start, after an object and at the end. Assumes nothing.
use mathlib.Core.Path.{◌≡◌, refl, sym, ap, ◌∙◌, subst}
use mathlib.Core.List.{List, [], ◌∷◌, ◌++◌}
use Prim.Native.Nat.{ℕ, ◌+◌, ◌*◌, ◌≤◌, ◌<◌, zero-le}
use native.Mathlib.Nat.{add-zero}
use native.Mathlib.Omega.{arith}
use lib.ListN.{length, get_or, drop, length-drop, drop_of_length-le}
use lib.Seq.{drop-drop, get_or-drop}
use Rattle.lists.specs.Loops.{join}
use Rattle.float.specs.Number.{min_area}
use Rattle.object.specs.Object.{Object}
use Rattle.scene.specs.declared.headers.Header.{Header}
use Rattle.scene.specs.Scene.{scene, trailer}
use Rattle.scene.specs.Contract.Answers.{objects_of}
use Rattle.scene.specs.Contract.Headers.{header_at, object_of}
use Rattle.scene.proofs.Walk.{Walking, walk_object, walk_next, walk_body, walk_inside, AcceptedAs, accepted_scene, trailer_inside}
use Rattle.mesh.specs.Mesh.{account_of, accounts_of, account_record, account_numbers}
use Rattle.quote_lines.specs.declared.Writer.{Writer}
use Rattle.quote_lines.specs.Contract.Writers.{Writes}
use Rattle.decimal.proofs.Texts.{Writing, writing_start, writing_next, writing_end, wrote_as}
use Rattle.quote_lines.specs.Lines.{account_line}
use Rattle.quote_text.specs.Quote.{object_line}
use Rattle.quote_objects.specs.Contract.Accounts.{Accounts, Priced}

-- k lines are written, and the next record is at place `at`
pub record Lines (s account : List ℕ) (n : ℕ) (old new : Writer) (at k : ℕ) : Type 0 where
  pub known : AcceptedAs s n (objects_of (scene s))
  pub walking : Walking s (trailer s n) n (objects_of (scene s)) k at
  pub count : k ≤ n
  pub place : at ≤ trailer s n
  pub rest : List ℕ
  pub numbers : drop (4 * k) account ≡ account_numbers (accounts_of min_area (drop k (objects_of (scene s)))) ++ rest
  pub writing : Writing old.text.now old.at (join object_line (objects_of (scene s))) new.text.now new.at (join object_line (drop k (objects_of (scene s))))
  pub loan : new.text.ghost_name ≡ old.text.ghost_name
  pub near : new.at ≤ old.at + 69 * k

pub lines_start : {s account : List ℕ} {n : ℕ} (old : Writer) → Priced s account n → Lines s account n old old 0 0
lines_start {s} {account} {n} old p =
    let os = objects_of (scene s) in
    let a = accepted_scene s os p.is in
    let known : AcceptedAs s n os = subst (λ (m : ℕ). AcceptedAs s m os) (sym a.size ∙ sym p.count) a in
    record {
      known = known;
      walking = known.begins;
      count = zero-le;
      place = zero-le;
      rest = p.account.rest;
      numbers = p.account.begins;
      writing = writing_start old.text.now old.at (join object_line os);
      loan = refl;
      near = omega arith;
    }

module _ {s account : List ℕ} {n : ℕ} {old new : Writer} {at k : ℕ} (w : Lines s account n old new at k) where
  abbrev os : List Object
  os = objects_of (scene s)

  -- the scene is not that long, and the account has the numbers of all objects
  pub place_fits : at ≤ 16777216
  place_fits = let short = w.known.short in let p = w.place in omega (arith, trailer_inside s n)

  module _ (l : k < n) where
    pub record_inside : at < length s
    record_inside = omega (arith, walk_body w.walking l, trailer_inside s n)

    abbrev here : Object
    here = object_of s at (header_at s at)

    abbrev later : List ℕ
    later = account_numbers (accounts_of min_area (drop (k + 1) os)) ++ w.rest

    -- the account of object k, and those behind it
    record_here : drop (4 * k) account ≡ account_record (account_of min_area here) ++ later
    unfolding account_numbers accounts_of join
    record_here = w.numbers ∙ ap (λ (r : List Object). account_numbers (accounts_of min_area r) ++ w.rest) (walk_object w.walking l)

    pub four_more : 4 * k + 4 ≤ length account
    four_more = omega (arith, length-drop (4 * k) account, ap length record_here)

    number_here : (j : ℕ) → get_or account (4 * k + j) 0 ≡ get_or (account_record (account_of min_area here) ++ later) j 0
    number_here j = sym (get_or-drop (4 * k) account j 0) ∙ ap (λ (l : List ℕ). get_or l j 0) record_here

    module _ {h : Header} (e : h ≡ header_at s at) where
      pub next_fits : at + h.size ≤ 16777216
      next_fits =
          let short = w.known.short in
          subst (λ (x : Header). at + x.size ≤ 16777216) (sym e) (omega (arith, walk_inside w.walking l, trailer_inside s n))

      line_is : account_line h.id (get_or account (4 * k) 0) (get_or account (4 * k + 1) 0) (get_or account (4 * k + 2) 0) ≡ object_line here
      unfolding object_line
      line_is =
          let first = ap (λ (i : ℕ). get_or account i 0) (sym (add-zero (4 * k))) ∙ number_here 0 in
          let second = number_here 1 in
          let third = number_here 2 in
          λ i. account_line (e i).id (first i) (second i) (third i)

      pub lines_next : {new' : Writer} → Writes new (account_line h.id (get_or account (4 * k) 0) (get_or account (4 * k + 1) 0) (get_or account (4 * k + 2) 0)) new' × (new'.at ≤ new.at + 69)
          → Lines s account n old new' (at + h.size) (k + 1)
      unfolding join
      lines_next v =
          let size = ap (λ (x : Header). at + x.size) e in
          let near = w.near in
          let far = v.1 in
          let four : 4 * (k + 1) ≡ 4 * k + 4 = omega arith in
          record {
            known = w.known;
            walking = subst (λ (i : ℕ). Walking s (trailer s n) n os (k + 1) i) (sym size) (walk_next w.walking l);
            count = omega arith;
            place = subst (λ (i : ℕ). i ≤ trailer s n) (sym size) (walk_inside w.walking l);
            rest = w.rest;
            numbers = ap (λ (i : ℕ). drop i account) four ∙ sym (drop-drop 4 (4 * k) account) ∙ ap (drop 4) record_here;
            writing =
                writing_next (object_line here) (join object_line (drop (k + 1) os)) (ap (join object_line) (walk_object w.walking l)) w.writing
                (wrote_as (sym line_is) v.0.wrote);
            loan = v.0.loan ∙ w.loan;
            near = omega arith;
          }

  pub lines_end : n ≤ k → Writes old (join object_line os) new × (new.at ≤ old.at + 69 * n)
  unfolding join
  lines_end h =
      let size = w.known.size in
      let count = w.count in
      let near = w.near in
      let all : length os ≤ k = omega arith in
      (record { wrote = writing_end (ap (join object_line) (drop_of_length-le os all)) w.writing; loan = w.loan }, omega arith)
