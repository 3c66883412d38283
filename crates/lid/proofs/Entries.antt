-- Entries of the log written as numbers and read back are the same. Assumes nothing.
use mathlib.Core.Path.{◌≡◌, refl}
use mathlib.Core.List.{List}
use Prim.Native.Nat.{suc, ◌+◌, ◌*◌}
use native.Mathlib.Omega.{arith}
use lib.Dec.{lit<}
use Rattle.lid.specs.Log.{Entry, entry_record, log_numbers, entry_at, entries_in}
use Rattle.lists.proofs.Buffers.{Reads, records_back, past}

entry_reads : Reads entry_record entry_at
entry_reads = record {
  first = λ e rest. refl;
  later = λ e rest k. λ i. record {
    mark = past (entry_record e) rest (4 * suc k) (4 * k) 0 (omega arith) i;
    a = past (entry_record e) rest (4 * suc k + 1) (4 * k + 1) 0 (omega arith) i;
    b = past (entry_record e) rest (4 * suc k + 2) (4 * k + 2) 0 (omega arith) i;
    c = past (entry_record e) rest (4 * suc k + 3) (4 * k + 3) 0 (omega arith) i;
  };
}

pub entries_back : (es : List Entry) → entries_in (log_numbers es) ≡ es
unfolding entries_in log_numbers
entries_back es = records_back entry_record entry_at 4 (lit< tt) (λ e. refl) entry_reads es
