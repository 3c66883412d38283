-- Document 01, section 6: the log.
use Rattle.std.specs.Prelude.{ℕ, ◌+◌, ◌*◌, ◌/◌, Bool, cond, List, [], ◌∷◌, length, get_or, eqb}
use Rattle.lists.specs.Loops.{list, join}

-- an entry, mark first
pub record Entry : Type 0 where
  pub mark : ℕ
  pub a : ℕ
  pub b : ℕ
  pub c : ℕ

abbrev pub entry : ℕ → ℕ → ℕ → ℕ → Entry
entry m i j k = record { mark = m; a = i; b = j; c = k }

-- entries as numbers in the lent buffer, so many to one
abbrev pub entry_width : ℕ
entry_width = 4

abbrev pub entry_record : Entry → List ℕ
entry_record e = e.mark ∷ e.a ∷ e.b ∷ e.c ∷ []

unfoldable pub log_numbers : List Entry → List ℕ
log_numbers es = join entry_record es

-- and read back
abbrev pub entry_at : List ℕ → ℕ → Entry
entry_at ns k = let i = entry_width * k in entry (get_or ns i 0) (get_or ns (i + 1) 0) (get_or ns (i + 2) 0) (get_or ns (i + 3) 0)

unfoldable pub entries_in : List ℕ → List Entry
entries_in ns = list (entry_at ns) (length ns / entry_width) 0

-- the entry has the mark m
unfoldable pub is_mark : ℕ → Entry → Bool
is_mark m e = eqb e.mark m

-- the corners of the entries marked 3
unfoldable pub left_over : List Entry → List ℕ
left_over [] = []
left_over (e ∷ es) = let more = left_over es in cond (is_mark 3 e) (e.a ∷ more) more

-- a ring and the entries made on the way to it
pub record Logged : Type 0 where
  pub ring : List ℕ
  pub log : List Entry

unfoldable pub logged : Entry → Logged → Logged
logged e l = record { ring = l.ring; log = e ∷ l.log }
