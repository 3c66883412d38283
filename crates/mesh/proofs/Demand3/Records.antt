-- Spans and accounts written as numbers and read back are the same; and what stands in the buffers after they were written. Assumes nothing.
use mathlib.Core.Path.{◌≡◌, refl}
use mathlib.Core.List.{List}
use Prim.Native.Nat.{suc, ◌+◌, ◌*◌}
use native.Mathlib.Omega.{arith}
use lib.Dec.{lit<}
use Rattle.mesh.specs.Demand3.{prefixes}
use Rattle.mesh.specs.Mesh.{Span, Account, span_record, span_numbers, span_at, spans_in, account_record, account_numbers, account_at, accounts_in}
use Rattle.mesh.specs.PerBuffer.{each, at, Buffers}
use Rattle.mesh.specs.Operations.{counts_of, overlay}
use Rattle.lists.proofs.Buffers.{take_over, Reads, records_back, past}

-- ---- the first numbers of a buffer, as many as were written, are those written, whatever the buffer held

pub prefixes_written : (written b : Buffers) → prefixes (counts_of written) (overlay written b) ≡ written
unfolding prefixes counts_of overlay
prefixes_written w b = λ i. each (λ k. take_over (at w k) (at b k) i)

-- ---- spans and accounts

span_reads : Reads span_record span_at
span_reads = record {
  first = λ s rest. refl;
  later = λ s rest k. λ i. record {
    id = past (span_record s) rest (5 * suc k) (5 * k) 0 (omega arith) i;
    vertex_start = past (span_record s) rest (5 * suc k + 1) (5 * k + 1) 0 (omega arith) i;
    vertex_end = past (span_record s) rest (5 * suc k + 2) (5 * k + 2) 0 (omega arith) i;
    index_start = past (span_record s) rest (5 * suc k + 3) (5 * k + 3) 0 (omega arith) i;
    index_end = past (span_record s) rest (5 * suc k + 4) (5 * k + 4) 0 (omega arith) i;
  };
}

pub spans_back : (ss : List Span) → spans_in (span_numbers ss) ≡ ss
unfolding spans_in span_numbers
spans_back ss = records_back span_record span_at 5 (lit< tt) (λ s. refl) span_reads ss

account_reads : Reads account_record account_at
account_reads = record {
  first = λ a rest. refl;
  later = λ a rest k. λ i. record {
    offered = past (account_record a) rest (4 * suc k) (4 * k) 0 (omega arith) i;
    kept = past (account_record a) rest (4 * suc k + 1) (4 * k + 1) 0 (omega arith) i;
    thin = past (account_record a) rest (4 * suc k + 2) (4 * k + 2) 0 (omega arith) i;
    entries = past (account_record a) rest (4 * suc k + 3) (4 * k + 3) 0 (omega arith) i;
  };
}

pub accounts_back : (xs : List Account) → accounts_in (account_numbers xs) ≡ xs
unfolding accounts_in account_numbers
accounts_back xs = records_back account_record account_at 4 (lit< tt) (λ a. refl) account_reads xs
