-- The lines of a quote, by their numbers. Definitions only.
use Rattle.std.specs.Prelude.{ℕ, Bool, true, false, cond, List, ◌++◌, Ok, Err}
use Rattle.validate.specs.Verdict.{Validation}
use Rattle.quote_lines.specs.Words.{ascii, field}

-- a refusal: only its number
unfoldable pub refused_line : ℕ → List ℕ
refused_line number = field "refused " number ++ ascii "\n"

-- an object: its id and the first three numbers of its account
unfoldable pub account_line : ℕ → ℕ → ℕ → ℕ → List ℕ
account_line id offered kept thin = field "object " id ++ field " offered " offered ++ field " kept " kept ++ field " thin " thin ++ ascii "\n"

-- the mesh's counts
unfoldable pub counts_line : ℕ → ℕ → ℕ → List ℕ
counts_line vertices indices spans = field "mesh " vertices ++ field " vertices " indices ++ field " indices " spans ++ ascii " spans\n"

-- the verdict: ok or empty, since a built mesh has no other (`verdict_words` of quote_text/proofs/Verdicts)
abbrev pub is_ok : Validation → Bool
is_ok (Ok (Ok u)) = true
is_ok (Ok (Err e)) = false
is_ok (Err f) = false

unfoldable pub verdict_line : Bool → List ℕ
verdict_line ok = cond ok (ascii "verdict ok\n") (ascii "verdict empty\n")
