-- `bdz_table::rank::ones_in_byte` meets its contract. Assumes nothing.
use Rattle.std.proofs.Common.{◌/◌, ◌^◌, arith}
use lib.Bits.{and_mask}
use Rattle.bdz_table.proofs.Ones.{ones_low}
use Rattle.bdz_table.proofs.Bits.{one_moved}
use Rattle.bdz_table.proofs.rank.ones_in_byte.Goals as goal

pub returns : goal.returns
returns c =
    let a = c.args in
    rw (one_moved a.take 32 (omega arith), and_mask (a.byte / 2 ^ a.bit) a.take) (ones_low a.take (a.byte / 2 ^ a.bit))
