-- Vertices written as numbers and read back are the same. Assumes nothing.
use Rattle.std.proofs.Common.{◌≡◌, suc, ◌+◌, ◌*◌, List, length, refl, arith, lit<}
use Rattle.float.specs.Number.{zerof}
use Rattle.coords.specs.declared.Point.{Point}
use Rattle.coords.specs.Buffers.{vertex_record, vertex_numbers, vertex_at, vertices_in}
use Rattle.lists.proofs.Lists.{join_size}
use Rattle.lists.proofs.Buffers.{Reads, records_back, past}

vertex_reads : Reads vertex_record vertex_at
vertex_reads = record {
  first = λ a rest. refl;
  later = λ a rest k. λ i. record {
    x = past (vertex_record a) rest (3 * suc k) (3 * k) zerof (omega arith) i;
    y = past (vertex_record a) rest (3 * suc k + 1) (3 * k + 1) zerof (omega arith) i;
    z = past (vertex_record a) rest (3 * suc k + 2) (3 * k + 2) zerof (omega arith) i;
  };
}

pub vertices_size : (ps : List Point) → length (vertex_numbers ps) ≡ 3 * length ps
unfolding vertex_numbers
vertices_size ps = join_size vertex_record 3 (λ p. refl) ps

pub vertices_back : (ps : List Point) → vertices_in (vertex_numbers ps) ≡ ps
unfolding vertices_in vertex_numbers
vertices_back ps = records_back vertex_record vertex_at 3 (lit< tt) (λ p. refl) vertex_reads ps
