-- `bdz_table::occ::occ_set` meets its contract. Assumes nothing.
use Rattle.std.proofs.Common.{◌%◌, arith}
use Rattle.bdz_table.specs.Occupancy.{with_bit}
use Rattle.bdz_table.proofs.Bits.{one_moved}
use Rattle.bdz_table.proofs.occ.occ_set.Goals as goal

pub returns : goal.returns
unfolding with_bit
returns c = rw (one_moved (c.args.v % 8) 8 (omega arith))
