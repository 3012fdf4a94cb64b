-- The occupancy: one bit a vertex. Assumes nothing.
use Rattle.std.specs.Prelude.{ℕ, ◌/◌, ◌%◌, ◌^◌, List, bit_or, slice_index, slice_set}
use Rattle.bdz_base.specs.Buffer.{tab}
use Rattle.bdz_base.specs.Pack.{pack_of}
use Rattle.bdz_table.specs.Graph.{has, only_if}

-- "vertex v at bit v mod 8 of byte v/8": the bytes with the bit of v set
unfoldable pub with_bit : ℕ → List ℕ → List ℕ
with_bit v bytes = slice_set bytes (v / 8) (bit_or (slice_index bytes (v / 8)) (2 ^ (v % 8)))

-- the occupancy of m vertices of which `ats` are occupied: a table of words of one bit
unfoldable pub occupancy_of : ℕ → List ℕ → List ℕ
occupancy_of m ats = pack_of 1 (tab (λ v. only_if (has v ats) 1) m)
