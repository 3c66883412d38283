-- The marks of the log's entries, by number.
use Rattle.std.specs.Prelude.{ℕ}
use Rattle.lid.specs.declared.Mark.{Mark}
use Rattle.lid.specs.declared.Mark.TheVariants.{Ear, Dropped, Left, Joined, Apart, HoleTooSmall, LidTooSmall}

abbrev pub mark_number : Mark → ℕ
mark_number Ear = 1
mark_number Dropped = 2
mark_number Left = 3
mark_number Joined = 4
mark_number Apart = 5
mark_number HoleTooSmall = 6
mark_number LidTooSmall = 7
